use Rattle.std.proofs.Common.{length}
use Rattle.run_plan.proofs.planning.+push_nodes.Given as goal

abbrev pub decreases-push_nodes : goal.decreases-push_nodes
decreases-push_nodes l = length l.listen.now
