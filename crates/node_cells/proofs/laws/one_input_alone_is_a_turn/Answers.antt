use Rattle.node_cells.proofs.OneInput.{one_is_a_turn}
use Rattle.node_cells.proofs.laws.one_input_alone_is_a_turn.Goals as goal

pub returns : goal.returns
returns g c s = one_is_a_turn _ _
