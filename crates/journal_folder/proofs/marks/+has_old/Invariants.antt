use Rattle.std.proofs.Common.{length}
use Rattle.journal_folder.proofs.marks.+has_old.Given as goal

-- fewer are left
abbrev pub decreases-has_old : goal.decreases-has_old
decreases-has_old l = length l.stages.now
