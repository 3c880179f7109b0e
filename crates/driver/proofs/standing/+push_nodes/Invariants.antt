use Rattle.std.proofs.Common.{length}
use Rattle.driver.proofs.standing.+push_nodes.Given as goal

abbrev pub decreases-push_nodes : goal.decreases-push_nodes
decreases-push_nodes l = length l.monitors.now
