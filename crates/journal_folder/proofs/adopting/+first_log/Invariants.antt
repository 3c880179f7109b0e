use Rattle.std.proofs.Common.{length}
use Rattle.journal_folder.proofs.adopting.+first_log.Given as goal

-- fewer are left
abbrev pub decreases-first_log : goal.decreases-first_log
decreases-first_log l = length l.journals.now
