use Rattle.std.proofs.Common.{length}
use Rattle.journal_folder.proofs.standing.+is_new.Given as goal

-- fewer are left
abbrev pub decreases-is_new : goal.decreases-is_new
decreases-is_new l = length l.group.now
