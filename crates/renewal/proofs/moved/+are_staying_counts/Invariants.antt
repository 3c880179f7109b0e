use Rattle.std.proofs.Common.{length}
use Rattle.renewal.proofs.moved.+are_staying_counts.Given as goal

abbrev pub decreases-are_staying_counts : goal.decreases-are_staying_counts
decreases-are_staying_counts l = length l.gone.now
