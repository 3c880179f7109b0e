use Rattle.raft_node.proofs.Keeps.{turn_keeps_applied}
use Rattle.raft_node.proofs.laws.a_turn_keeps_what_was_applied.Goals as goal

pub returns : goal.returns
returns g c = λ s. turn_keeps_applied _
