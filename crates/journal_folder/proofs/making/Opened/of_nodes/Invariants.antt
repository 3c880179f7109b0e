use Rattle.std.proofs.Common.{◌≡◌, ◌++◌, drop, length}
use Rattle.journal_folder.proofs.making.Opened.of_nodes.Given as goal

-- one for each node so far, followed by one for each that is left, make those of all nodes
abbrev pub invariant-loop-node : goal.invariant-loop-node
invariant-loop-node g l = (l.opened.nodes.items ++ drop l.node-index l.node-items ≡ l.node-items) × ((length l.opened.journals.items ≡ l.node-index) × (length l.opened.nodes.items ≡ l.node-index))
