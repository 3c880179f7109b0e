use Rattle.std.proofs.Common.{length}
use Rattle.bouncer_config.proofs.gathering.+gather_keys.Given as goal

abbrev pub decreases-gather_keys : goal.decreases-gather_keys
decreases-gather_keys l = length l.keys.now
