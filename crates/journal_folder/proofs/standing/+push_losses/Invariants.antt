use Rattle.std.proofs.Common.{length}
use Rattle.journal_folder.proofs.standing.+push_losses.Given as goal

-- fewer are left
abbrev pub decreases-push_losses : goal.decreases-push_losses
decreases-push_losses l = length l.journals.now
