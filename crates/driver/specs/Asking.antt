-- When a client's requests go to its node: once, and again if they may be lost.
use Rattle.std.specs.Prelude.{◌≡◌, ◌&&◌, ◌||◌, ℕ, Bool, true, false, not, nat_eq, nat_le, if◌then◌else◌, List, [], length}
use Rattle.request_once.specs.declared.answer.Answer.TheVariants.{Done, Gap, Repeat}
use Rattle.client_gate.specs.declared.request.Request.{Request}
use Rattle.client_gate.specs.declared.settings.Settings.{Settings}
use Rattle.client_gate.specs.Calls.{Call, gate}
use Rattle.client_gate.specs.Gates.{GateEffect}
use Rattle.wire_bytes.specs.declared.moment.Moment.{Moment}
use Rattle.driver.specs.declared.client.Asked.{Asked}
use Rattle.driver.specs.declared.client.Client.{Client}
use Rattle.driver.specs.Clients.{asks_of}
use Rattle.driver.specs.Monitors.{at, is_over}
use Rattle.driver.specs.Telling.{Ordered, next_note, ordered}

-- the note in which a request of a client goes to its node if it goes next, at this moment
abbrev pub now_asked : Ordered → ℕ → Client → Asked
now_asked orders now c = record { note = next_note orders c.origin.0; at = at now }

-- nothing waits
abbrev pub is_idle : List Request → Bool
is_idle waiting = nat_eq (length waiting) 0

-- if nothing waits, the next request is the oldest, and nothing holds it up
abbrev pub begun : Asked → List Request → Client → Client
begun asked waiting c = record c {
  asked = if is_idle waiting then asked else c.asked;
  is_held_up = c.is_held_up && not (is_idle waiting);
}

-- a number that was left out holds a client up, and something done for it ends that
abbrev pub held_behind : GateEffect → Bool → Bool
held_behind (Gap origin number) held = true
held_behind (Done origin number) held = false
held_behind (Repeat origin number) held = false
held_behind effect held = held

-- all that waits was sent again
abbrev pub asked_anew : Asked → Client → Client
asked_anew asked c = record c { asked = asked }

-- what waits is sent again if this is so
abbrev pub asks_if : Bool → Client → Moment → List Request → Ordered → Ordered
asks_if again c at waiting before = ordered before (if again then asks_of c.origin at waiting else [])

-- and the client remembers in which note, and when
abbrev pub anew_if : Bool → Asked → Client → Client
anew_if again asked c = if again then asked_anew asked c else c

-- the notes up to this one may be lost, and with them what waits
abbrev pub may_be_lost : ℕ → Client → Bool
may_be_lost lost c = nat_le c.asked.note lost

-- a client is held up, and has sent nothing for this long
abbrev pub is_stuck : ℕ → ℕ → Client → Bool
is_stuck timeout now c = c.is_held_up && is_over c.asked.at timeout now

-- a turn of a client's node was refused, while something waits
abbrev pub held_if : Bool → List Request → Client → Client
held_if refused waiting c = record c { is_held_up = c.is_held_up || (refused && not (is_idle waiting)) }

-- A client's node reported what may be lost, and whether it refused a turn: what waits is sent again if it may be lost.
pub record HearsNode (lost : ℕ) (refused : Bool) (now : ℕ) (at : Moment) (s : Settings) (calls : List Call) (old : Client) (before : Ordered) (new : Client) (after : Ordered) : Type 0 where
  pub orders : after ≡ asks_if (may_be_lost lost old) old at (gate s calls).waiting before
  pub client : new ≡ anew_if (may_be_lost lost old) (now_asked before now old) (held_if refused (gate s calls).waiting old)
