use Rattle.raft_node.proofs.SteppingAll.{one_is_a_step}
use Rattle.raft_node.proofs.laws.one_input_alone_is_a_step.Goals as goal

pub returns : goal.returns
returns g c s = one_is_a_step _ _ _ _
