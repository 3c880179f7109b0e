use Rattle.std.proofs.Common.{length}
use Rattle.journal_folder.proofs.planning.+push_next.Given as goal

-- fewer are left
abbrev pub decreases-push_next : goal.decreases-push_next
decreases-push_next l = length l.numbers.now
