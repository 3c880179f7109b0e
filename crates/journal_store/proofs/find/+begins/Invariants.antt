use Rattle.std.proofs.Common.{length}
use Rattle.journal_store.proofs.find.+begins.Given as goal

abbrev pub decreases-begins : goal.decreases-begins
decreases-begins l = length l.front.now
