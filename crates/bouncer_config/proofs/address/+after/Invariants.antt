use Rattle.std.proofs.Common.{length}
use Rattle.bouncer_config.proofs.address.+after.Given as goal

abbrev pub decreases-after : goal.decreases-after
decreases-after l = length l.front.now
