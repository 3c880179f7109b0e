use Rattle.std.proofs.Common.{length}
use Rattle.journal_folder.proofs.counting.+greatest_term.Given as goal

-- fewer are left
abbrev pub decreases-greatest_term : goal.decreases-greatest_term
decreases-greatest_term g l = length l.group.now
