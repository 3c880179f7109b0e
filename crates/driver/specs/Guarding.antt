-- Wrong passwords: when each is answered, and which of them are logged.
use Rattle.std.specs.Prelude.{◌≡◌, ℕ, ◌+◌, ◌-◌, ◌^◌, ◌&&◌, min, Bool, true, false, not, nat_eq, nat_le, nat_lt, if◌then◌else◌, List, [], ◌∷◌, Option, Some, None}
use Rattle.wire_bytes.specs.declared.origin.Origin.{Origin}
use Rattle.driver.specs.declared.driver.Driver.{Driver}
use Rattle.driver.specs.declared.guard.Guard.{Guard}
use Rattle.driver.specs.declared.guard.TheConstants.{ANSWERED_BEHIND, FIRST, FURTHEST, MINUTE, TURNS_APART}
use Rattle.driver.specs.declared.news.News.TheVariants.{WrongPassword, WrongPasswords}
use Rattle.driver.specs.declared.order.Order.{Order}
use Rattle.driver.specs.declared.order.Order.TheVariants.{Log}
use Rattle.driver.specs.Monitors.{at, is_over}
use Rattle.driver.specs.Telling.{Ordered, one_more, ordered}

-- no wrong password came
abbrev pub new_guard : ℕ → Guard
new_guard now = record { since = at now; wrong = 0; turn = 0 }

-- this long after a moment, as far as 64 bits count
abbrev pub behind_by : ℕ → ℕ → ℕ
behind_by wait now = min (now + wait) (2 ^ 64 - 1)

-- one that comes now is among the first of its minute
abbrev pub is_first : Guard → Bool
is_first guard = nat_lt guard.wrong FIRST

-- two seconds later
abbrev pub soon : ℕ → ℕ
soon now = behind_by ANSWERED_BEHIND now

-- the turn after the last one: a second later, and two seconds from now on at the earliest
abbrev pub next_turn : Guard → ℕ → ℕ
next_turn guard now = if nat_lt (soon now) (behind_by TURNS_APART guard.turn) then behind_by TURNS_APART guard.turn else soon now

-- when a wrong password that comes now is answered: two seconds later, and beyond the first ones of a minute in its
-- turn
abbrev pub due_at : Guard → ℕ → ℕ
due_at guard now = if is_first guard then soon now else next_turn guard now

-- one that comes now takes a turn: it comes after the first ones, and the turn is within ten seconds
abbrev pub takes_turn : Guard → ℕ → Bool
takes_turn guard now = not (is_first guard) && nat_le (next_turn guard now) (behind_by FURTHEST now)

-- after a wrong password came
abbrev pub noted : ℕ → Guard → Guard
noted now guard = record {
  since = if nat_eq guard.wrong 0 then at now else guard.since;
  wrong = one_more guard.wrong;
  turn = if takes_turn guard now then next_turn guard now else guard.turn;
}

-- how many came in a minute that is over, beyond those that were logged
abbrev pub untold : ℕ → Guard → ℕ
untold now guard = if is_over guard.since MINUTE now then guard.wrong - FIRST else 0

-- they are counted anew once a minute is over
abbrev pub watched : ℕ → Guard → Guard
watched now guard = if is_over guard.since MINUTE now then record guard { wrong = 0 } else guard

-- a wrong password that is among the first is logged
abbrev pub first_news : Guard → Origin → List Order
first_news guard origin = if is_first guard then Log (WrongPassword origin) ∷ [] else []

-- and how many more came
abbrev pub more_news : ℕ → List Order
more_news count = if nat_eq count 0 then [] else Log (WrongPasswords count) ∷ []

-- A client's password was found wrong, and was not known to be before: it is counted, and logged if it is among the
-- first.
abbrev pub NotesIf : Bool → Option Origin → ℕ → Guard → Ordered → Guard → Ordered → Type 0
NotesIf true found now guard before new after = (new ≡ guard) × (after ≡ before)
NotesIf false None now guard before new after = (new ≡ guard) × (after ≡ before)
NotesIf false (Some origin) now guard before new after = (new ≡ noted now guard) × (after ≡ ordered before (first_news guard origin))

-- Once a minute is over, it is logged how many more came in it.
pub record WatchesPasswords (now : ℕ) (old new : Driver) : Type 0 where
  pub guard : new.guard ≡ watched now old.guard
  pub orders : new.orders ≡ ordered old.orders (more_news (untold now old.guard))
  pub rest : new ≡ record old { guard = new.guard; orders = new.orders }
