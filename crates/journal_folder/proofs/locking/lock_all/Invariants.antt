use Rattle.std.proofs.Common.{◌≡◌, length, map}
use Rattle.std.specs.List.{All}
use Rattle.journal_folder.specs.Nodes.{all_nodes}
use Rattle.journal_folder.proofs.locking.lock_all.Given as goal

-- the locks of each folder so far
abbrev pub invariant-loop-folder : goal.invariant-loop-folder
invariant-loop-folder g l = record { count : length l.locks.items ≡ l.folder-index; nodes : All (λ of_one. map (λ lock. lock.node) of_one.items ≡ all_nodes) l.locks.items }
