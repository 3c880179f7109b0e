use Rattle.std.proofs.Common.{length}
use Rattle.renewal.proofs.moved.+are_staying_names.Given as goal

abbrev pub decreases-are_staying_names : goal.decreases-are_staying_names
decreases-are_staying_names l = length l.gone.now
