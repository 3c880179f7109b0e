-- The rows in which the messages of each node were sent, as they are noted event by event.
use Rattle.std.specs.Prelude.{◌≡◌, ℕ, suc, ◌-◌, ◌<◌, List, [], ◌++◌, length, replicate, Option, None, Some, slice_get}
use Rattle.std.specs.Global.{Vec}
use Rattle.raft_log.specs.Lists.{item}
use Rattle.raft_log.specs.Node.{Node}
use Rattle.world_app.specs.Diagrams.{sent_count}

-- the items in a list of a node, if there is one
abbrev pub items_of : Option (Vec ℕ) → List ℕ
items_of None = []
items_of (Some rows) = rows.items

-- the rows of the node of this index
abbrev pub rows_at : List (Vec ℕ) → ℕ → List ℕ
rows_at all index = items_of (slice_get all index)

-- the row of the message of this number, from 1, that the node of this number sent
abbrev pub row_in : List (Vec ℕ) → ℕ → ℕ → Option ℕ
row_in all node number = item (items_of (item all node)) number

-- this row is noted for each message up to this number that has no row yet
abbrev pub noted : ℕ → ℕ → List ℕ → List ℕ
noted row count rows = rows ++ replicate (count - length rows) row

-- this many nodes, none of which sent anything
pub record AreEmpty (size : ℕ) (all : List (Vec ℕ)) : Type 0 where
  pub length_is : length all ≡ size
  pub none : (index : ℕ) → rows_at all index ≡ []

-- this row is noted for each node for its further messages
pub record AreNoted {B : Type 0} (row : ℕ) (w : List (Node B)) (old new : List (Vec ℕ)) : Type 0 where
  pub length_is : length new ≡ length old
  pub each : (index : ℕ) → index < length old → rows_at new index ≡ noted row (sent_count w (suc index)) (rows_at old index)
