use Rattle.std.proofs.Common.{length}
use Rattle.journal_folder.proofs.paths.+push_renewing.Given as goal

-- fewer are left
abbrev pub decreases-push_renewing : goal.decreases-push_renewing
decreases-push_renewing l = length l.all.now
