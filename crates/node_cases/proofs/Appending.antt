-- Inputs by which a leader only appends.
use Rattle.std.proofs.Common.{List, [], ◌∷◌, ◌++◌}
use Rattle.raft_node.specs.Together.{OnlyAppends}
use Rattle.node_cells.specs.Inputs.{OnlyAppend, input_of}
use Rattle.world_views.specs.Inputs.{NodeInput}

-- one more of them
pub appends_more : {B L : Type 0} (inputs : List (NodeInput B L)) (x : NodeInput B L) → OnlyAppend inputs → OnlyAppends (input_of x) → OnlyAppend (inputs ++ x ∷ [])
appends_more [] x all one = (one, tt)
appends_more (y ∷ inputs) x all one = (all.0, appends_more inputs x all.1 one)
