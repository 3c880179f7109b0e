use Rattle.std.proofs.Common.{length}
use Rattle.bouncer_config.proofs.lists.+read_channels.Given as goal

abbrev pub decreases-read_channels : goal.decreases-read_channels
decreases-read_channels l = length l.values.now
