use Rattle.std.proofs.Common.{length}
use Rattle.renewal.proofs.moved.+are_new_channels.Given as goal

abbrev pub decreases-are_new_channels : goal.decreases-are_new_channels
decreases-are_new_channels l = length l.names.now
