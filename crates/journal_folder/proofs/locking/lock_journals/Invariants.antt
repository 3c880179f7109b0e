use Rattle.std.proofs.Common.{◌≡◌, ◌++◌, drop, map}
use Rattle.journal_folder.proofs.locking.lock_journals.Given as goal

-- one lock for each node so far, followed by one for each that is left, make those of all nodes
abbrev pub invariant-loop-node : goal.invariant-loop-node
invariant-loop-node g l = map (λ lock. lock.node) l.locks.items ++ drop l.node-index l.node-items ≡ l.node-items
