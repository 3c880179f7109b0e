use Rattle.std.proofs.Common.{◌≡◌, ◌++◌, drop, map}
use Rattle.journal_folder.proofs.foretelling.read_group.Given as goal

-- a journal for each node so far, followed by one for each that is left, make those of all nodes
abbrev pub invariant-loop-node : goal.invariant-loop-node
invariant-loop-node g l = map (λ first. first.node) l.journals.items ++ drop l.node-index l.node-items ≡ l.node-items
