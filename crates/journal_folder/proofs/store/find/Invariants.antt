use Rattle.std.proofs.Common.{◌≤◌}
use Rattle.journal_folder.proofs.store.find.Given as goal

-- a node's number so far, or none
abbrev pub invariant-loop-node : goal.invariant-loop-node
invariant-loop-node g l = l.journals ≤ 7
