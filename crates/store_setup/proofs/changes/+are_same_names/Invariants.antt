use Rattle.std.proofs.Common.{length}
use Rattle.store_setup.proofs.changes.+are_same_names.Given as goal

-- fewer are left
abbrev pub decreases-are_same_names : goal.decreases-are_same_names
decreases-are_same_names l = length l.first.now
