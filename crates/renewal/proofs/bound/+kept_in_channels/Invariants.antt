use Rattle.std.proofs.Common.{length}
use Rattle.renewal.proofs.bound.+kept_in_channels.Given as goal

abbrev pub decreases-kept_in_channels : goal.decreases-kept_in_channels
decreases-kept_in_channels l = length l.channels.now
