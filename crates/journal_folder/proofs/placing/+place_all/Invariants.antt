use Rattle.std.proofs.Common.{length}
use Rattle.journal_folder.proofs.placing.+place_all.Given as goal

-- fewer are left
abbrev pub decreases-place_all : goal.decreases-place_all
decreases-place_all g l = length l.all.now
