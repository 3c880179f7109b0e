use Rattle.std.proofs.Common.{length}
use Rattle.journal_folder.proofs.standing.+run_told.Given as goal

-- fewer are left
abbrev pub decreases-run_told : goal.decreases-run_told
decreases-run_told l = length l.group.now
