-- What a client asked goes to its node again if it may be lost.
use Rattle.std.specs.Prelude.{◌≡◌, ◌<◌, ℕ, Bool, true, false, nat_eq, List, [], ◌∷◌}
use Rattle.std.specs.List.{list_any}
use Rattle.wire_bytes.specs.declared.moment.Moment.{Moment}
use Rattle.client_gate.specs.Calls.{Call, Stands, gate}
use Rattle.client_gate.specs.declared.settings.Settings.{Settings}
use Rattle.driver.specs.declared.client.Client.{Client}
use Rattle.driver.specs.declared.order.Order.{Order}
use Rattle.driver.specs.Asking.{may_be_lost}
use Rattle.driver.specs.Once.{HappenAll, Happening, Words, numbers_of, numbers_told}
use Rattle.driver.specs.Telling.{Ordered, next_note, ordered}

-- a number is one of these
abbrev pub is_among : ℕ → List ℕ → Bool
is_among number numbers = list_any (nat_eq number) numbers

-- Each of these numbers is one of those.
abbrev pub AreAmong : List ℕ → List ℕ → Type 0
AreAmong some all = (number : ℕ) → is_among number some ≡ true → is_among number all ≡ true

-- The orders in between send the node each waiting request of a client.
pub record TellsAll (s : Settings) (before : Ordered) (new : Client) (after : Ordered) : Type 0 where
  pub behind : List Call
  pub stands : Stands s behind new.gate
  pub told : List Order
  pub orders : after ≡ ordered before told
  pub all : AreAmong (numbers_of (gate s behind).waiting) (numbers_told told)

-- A client's node reports that requests of the client may be lost. Whatever happens to the client after that, and
-- however often they are sent again: each of its waiting requests went to the node with that report, or after it.
abbrev pub AsksAgain : Type 0
AsksAgain =
    (lost now : ℕ) (at : Moment) (refused : Bool) (happenings : List Happening) (s : Settings) (calls : List Call) (old new : Client) (before after : Ordered)
    → HappenAll (record { event = Words lost refused; now = now; at = at } ∷ happenings) old before new after
    → Stands s calls old.gate → may_be_lost lost old ≡ true
    → TellsAll s before new after

-- A request of a client was sent after these orders, and the client's next note after them is none that may be lost.
pub record IsNotLost (lost number : ℕ) (new : Client) (after : Ordered) : Type 0 where
  pub before : Ordered
  pub next : lost < next_note before new.origin.0
  pub told : List Order
  pub orders : after ≡ ordered before told
  pub tells : is_among number (numbers_told told) ≡ true

-- A client's node reports that notes up to this one may be lost, and nothing is sent again for that. Whatever happened
-- to the client before, from a time when nothing waited on: each of its waiting requests went in a later note.
abbrev pub OthersAreNotLost : Type 0
OthersAreNotLost =
    (lost number : ℕ) (happenings : List Happening) (s : Settings) (calls : List Call) (old new : Client) (before after : Ordered)
    → HappenAll happenings old before new after → Stands s calls old.gate → (gate s calls).waiting ≡ []
    → may_be_lost lost new ≡ false
    → is_among number (numbers_of new.gate.gate.waiting) ≡ true
    → IsNotLost lost number new after
