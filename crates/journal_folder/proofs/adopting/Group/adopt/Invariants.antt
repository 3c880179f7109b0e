use Rattle.std.proofs.Common.{◌≡◌, ◌++◌, drop, map}
use Rattle.journal_folder.proofs.adopting.Group.adopt.Given as goal

-- a journal and a lock for each node so far, followed by one for each that is left, make those of all nodes
abbrev pub invariant-loop-node : goal.invariant-loop-node
invariant-loop-node g l =
    (map (λ first. first.node) l.gathered.journals.items ++ drop l.node-index l.node-items ≡ l.node-items)
    × (map (λ lock. lock.node) l.gathered.locks.items ++ drop l.node-index l.node-items ≡ l.node-items)
