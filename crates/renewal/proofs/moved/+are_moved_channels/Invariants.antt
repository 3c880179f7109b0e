use Rattle.std.proofs.Common.{◌+◌, length}
use Rattle.renewal.proofs.moved.+are_moved_channels.Given as goal

abbrev pub decreases-are_moved_channels : goal.decreases-are_moved_channels
decreases-are_moved_channels l = length l.added.now + length l.old.now
