use Rattle.std.proofs.Common.{length}
use Rattle.journal_folder.proofs.standing.+push_standing.Given as goal

-- fewer are left
abbrev pub decreases-push_standing : goal.decreases-push_standing
decreases-push_standing l = length l.journals.now
