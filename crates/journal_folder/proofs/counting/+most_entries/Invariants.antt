use Rattle.std.proofs.Common.{length}
use Rattle.journal_folder.proofs.counting.+most_entries.Given as goal

-- fewer are left
abbrev pub decreases-most_entries : goal.decreases-most_entries
decreases-most_entries g l = length l.group.now
