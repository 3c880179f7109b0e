use Rattle.std.proofs.Common.{length}
use Rattle.bouncer_config.proofs.placing.+push_placed.Given as goal

abbrev pub decreases-push_placed : goal.decreases-push_placed
decreases-push_placed l = length l.paths.now
