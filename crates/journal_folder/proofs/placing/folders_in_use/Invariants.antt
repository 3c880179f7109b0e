use Rattle.std.proofs.Common.{◌≡◌, length}
use Rattle.journal_folder.proofs.placing.folders_in_use.Given as goal

-- one for each folder so far
abbrev pub invariant-loop-paths : goal.invariant-loop-paths
invariant-loop-paths g l = length l.used.items ≡ l.paths-index
