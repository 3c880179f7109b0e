use Rattle.std.proofs.Common.{length}
use Rattle.journal_folder.proofs.marks.+has_placed.Given as goal

-- fewer are left
abbrev pub decreases-has_placed : goal.decreases-has_placed
decreases-has_placed l = length l.stages.now
