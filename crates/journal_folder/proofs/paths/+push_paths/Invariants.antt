use Rattle.std.proofs.Common.{length}
use Rattle.journal_folder.proofs.paths.+push_paths.Given as goal

-- fewer are left
abbrev pub decreases-push_paths : goal.decreases-push_paths
decreases-push_paths l = length l.folders.now
