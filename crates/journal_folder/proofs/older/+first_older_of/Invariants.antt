use Rattle.std.proofs.Common.{length}
use Rattle.journal_folder.proofs.older.+first_older_of.Given as goal

-- fewer are left
abbrev pub decreases-first_older_of : goal.decreases-first_older_of
decreases-first_older_of l = length l.journals.now
