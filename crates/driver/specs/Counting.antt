-- How many notes a node was sent: as many as are in its orders.
use Rattle.std.specs.Prelude.{◌≡◌, ◌≤◌, ◌+◌, ◌-◌, ◌^◌, ℕ, min, nat_eq, if◌then◌else◌, List, [], ◌∷◌, ◌++◌}
use Rattle.driver.specs.declared.driver.Driver.{Driver}
use Rattle.driver.specs.declared.order.Order.{Order}
use Rattle.driver.specs.declared.order.Order.TheVariants.{Submit}
use Rattle.driver.specs.Calls.{Led, Step}
use Rattle.driver.specs.Telling.{told_to}
use Rattle.wire_bytes.specs.Limits.{node_limit}

-- 1 if an order sends this node a note, else 0; nodes count from 1
abbrev pub notes_in : ℕ → Order → ℕ
notes_in node (Submit other note) = if nat_eq (other - 1) (node - 1) then 1 else 0
notes_in node order = 0

-- how many notes these orders send this node
unfoldable pub notes_told : ℕ → List Order → ℕ
notes_told node [] = 0
notes_told node (order ∷ more) = notes_in node order + notes_told node more

-- all that was ordered by these calls, in order
unfoldable pub all_told : List Step → List Order
all_told [] = []
all_told (step ∷ more) = step.told ++ all_told more

-- Over every list of calls of a driver, with its orders taken now and then or never: the number of notes that a node
-- was sent, as the driver counts them, is the number of notes to the node in its orders, as far as 64 bits count.
abbrev pub NotesAreCounted : Type 0
NotesAreCounted =
    (node : ℕ) (steps : List Step) (driver : Driver) → 1 ≤ node → node ≤ node_limit → Led steps driver
    → told_to driver.orders node ≡ min (notes_told node (all_told steps)) (2 ^ 64 - 1)
