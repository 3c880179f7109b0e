use Rattle.std.proofs.Common.{◌≡◌, length}
use Rattle.std.specs.List.{All}
use Rattle.journal_folder.specs.Nodes.{AreOfAllNodes}
use Rattle.journal_folder.proofs.locking.lock_folders.Given as goal

-- the locks of each folder so far
abbrev pub invariant-loop-paths : goal.invariant-loop-paths
invariant-loop-paths g l = record { count : length l.locks.items ≡ l.paths-index; nodes : All AreOfAllNodes l.locks.items }
