use Rattle.std.proofs.Common.{length}
use Rattle.journal_folder.proofs.marks.+has_marked.Given as goal

-- fewer are left
abbrev pub decreases-has_marked : goal.decreases-has_marked
decreases-has_marked l = length l.stages.now
