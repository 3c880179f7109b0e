use Rattle.std.proofs.Common.{length}
use Rattle.driver.proofs.key_ring.+learn_each.Given as goal

abbrev pub decreases-learn_each : goal.decreases-learn_each
decreases-learn_each l = length l.channels.now
