use Rattle.std.proofs.Common.{length}
use Rattle.journal_folder.proofs.standing.+has_entries.Given as goal

-- fewer are left
abbrev pub decreases-has_entries : goal.decreases-has_entries
decreases-has_entries l = length l.group.now
