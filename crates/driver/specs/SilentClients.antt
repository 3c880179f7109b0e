-- When a client that registered is sent a PING, and when it is closed, since it says nothing.
use Rattle.std.specs.Prelude.{◌≡◌, ◌-◌, ◌&&◌, ◌||◌, ℕ, Bool, true, false, not, codes, nat_le, if◌then◌else◌, List, [], ◌∷◌, ◌++◌}
use Rattle.std.specs.List.{list_any}
use Rattle.client_gate.specs.Calls.{Held, Stands}
use Rattle.client_gate.specs.declared.settings.Settings.{Settings}
use Rattle.wire_bytes.specs.declared.moment.Moment.{Moment}
use Rattle.wire_bytes.specs.declared.origin.Origin.{Origin}
use Rattle.driver.specs.declared.client.Client.{Client}
use Rattle.driver.specs.declared.order.Order.{Order}
use Rattle.driver.specs.Clients.{is_shut}
use Rattle.driver.specs.Farewells.{closes, written_to}
use Rattle.driver.specs.Once.{Event, HappenAll, Happening, Happens, Speaks, Waits}
use Rattle.driver.specs.Rosters.{IsNew}
use Rattle.driver.specs.Telling.{Ordered, ordered}

-- Since when nothing came of a client while it was read, and whether it was sent a PING since it last spoke.
pub record Silence : Type 0 where
  pub since : ℕ
  pub asked : Bool

-- it is silent for this many milliseconds
abbrev pub lasts : ℕ → ℕ → Silence → Bool
lasts wait now silence = nat_le wait (now - silence.since)

-- its silence counts from now on, if it was not read
abbrev pub read_until : Bool → ℕ → Silence → Silence
read_until reads now silence = record silence { since = if reads then silence.since else now }

-- time passes: it is sent a PING if it is silent for two minutes, once
abbrev pub is_asked : ℕ → Silence → Bool
is_asked now silence = not silence.asked && lasts 120000 now silence

-- and is closed if it is silent for four, and was sent a PING before
abbrev pub is_closed : ℕ → Silence → Bool
is_closed now silence = silence.asked && lasts 240000 now silence

-- its silence after an event: it ends when the client speaks, and begins anew when it is not read
abbrev pub silence_behind : Event → ℕ → Silence → Silence
silence_behind (Speaks bytes due) now silence = record { since = now; asked = false }
silence_behind (Waits reads timeout) now silence =
    let counted = read_until reads now silence in record counted { asked = counted.asked || is_asked now counted }
silence_behind event now silence = silence

-- and after these happenings
unfoldable pub silence_after : List Happening → Silence → Silence
silence_after [] silence = silence
silence_after (h ∷ more) silence = silence_after more (silence_behind h.event h.now silence)

-- what it is sent as time passes
abbrev pub silence_words : Bool → Bool → List ℕ
silence_words true asked = codes "ERROR :no word from you for too long" ++ 13 ∷ 10 ∷ []
silence_words false true = codes "PING bouncer.local" ++ 13 ∷ 10 ∷ []
silence_words false false = []

-- What was ordered between writes exactly this to a client, and closes it or not.
pub record WritesAndCloses (client : ℕ) (words : List ℕ) (is_closed : Bool) (before after : Ordered) : Type 0 where
  pub told : List Order
  pub orders : after ≡ ordered before told
  pub written : written_to client told ≡ words
  pub closed : list_any (closes client) told ≡ is_closed

-- Whatever happened to a client since it connected: if it registered, its password was right, and it is neither leaving
-- nor gone, then as time passes it is closed exactly if nothing came of it for four minutes in which it was read, and it
-- was sent a PING since it last spoke. It is sent that PING, once, when nothing came of it for two such minutes.
abbrev pub SilentAreClosed : Type 0
SilentAreClosed =
    (origin : Origin) (held : Held) (nick : List ℕ) (began : ℕ) (s : Settings) (first old new : Client) (before orders after : Ordered)
    (happenings : List Happening) (reads : Bool) (timeout now : ℕ) (at : Moment)
    → IsNew origin held nick began first → Stands s [] first.gate → HappenAll happenings first before old orders
    → Happens (Waits reads timeout) now at old orders new after
    → old.is_attached ≡ true → is_shut old ≡ false
    → let silence = read_until reads now (silence_after happenings (record { since = began; asked = false })) in
    WritesAndCloses old.origin.2 (silence_words (is_closed now silence) (is_asked now silence)) (is_closed now silence) orders after
