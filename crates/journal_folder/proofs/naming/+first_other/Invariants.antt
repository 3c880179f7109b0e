use Rattle.std.proofs.Common.{length}
use Rattle.journal_folder.proofs.naming.+first_other.Given as goal

-- fewer are left
abbrev pub decreases-first_other : goal.decreases-first_other
decreases-first_other l = length l.forgotten.now
