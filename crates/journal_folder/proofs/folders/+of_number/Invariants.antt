use Rattle.std.proofs.Common.{length}
use Rattle.journal_folder.proofs.folders.+of_number.Given as goal

-- fewer are left
abbrev pub decreases-of_number : goal.decreases-of_number
decreases-of_number l = length l.others.now
