use Rattle.std.proofs.Common.{length}
use Rattle.renewal.proofs.moved.+are_moved_targets.Given as goal

abbrev pub decreases-are_moved_targets : goal.decreases-are_moved_targets
decreases-are_moved_targets l = length l.old.now
