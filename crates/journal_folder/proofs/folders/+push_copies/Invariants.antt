use Rattle.std.proofs.Common.{length}
use Rattle.journal_folder.proofs.folders.+push_copies.Given as goal

-- fewer are left
abbrev pub decreases-push_copies : goal.decreases-push_copies
decreases-push_copies l = length l.folders.now
