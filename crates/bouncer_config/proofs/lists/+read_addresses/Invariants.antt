use Rattle.std.proofs.Common.{length}
use Rattle.bouncer_config.proofs.lists.+read_addresses.Given as goal

abbrev pub decreases-read_addresses : goal.decreases-read_addresses
decreases-read_addresses l = length l.values.now
