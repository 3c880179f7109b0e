use Rattle.std.proofs.Common.{length}
use Rattle.run_plan.proofs.text.+push_further.Given as goal

abbrev pub decreases-push_further : goal.decreases-push_further
decreases-push_further l = length l.names.now
