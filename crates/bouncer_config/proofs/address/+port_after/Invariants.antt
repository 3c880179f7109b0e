use Rattle.std.proofs.Common.{length}
use Rattle.bouncer_config.proofs.address.+port_after.Given as goal

abbrev pub decreases-port_after : goal.decreases-port_after
decreases-port_after l = length l.digits.now
