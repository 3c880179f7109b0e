use Rattle.std.proofs.Common.{length}
use Rattle.renewal.proofs.moved.+are_none.Given as goal

abbrev pub decreases-are_none : goal.decreases-are_none
decreases-are_none l = length l.seen.now
