use Rattle.std.proofs.Common.{length}
use Rattle.journal_folder.proofs.counting.+most_up_to_date.Given as goal

-- fewer are left
abbrev pub decreases-most_up_to_date : goal.decreases-most_up_to_date
decreases-most_up_to_date g l = length l.others.now
