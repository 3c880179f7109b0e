use Rattle.std.proofs.Common.{◌≤◌}
use Rattle.journal_folder.proofs.looking.look_at.Given as goal

-- at most as many as there were nodes so far
abbrev pub invariant-loop-node : goal.invariant-loop-node
invariant-loop-node g l = l.full ≤ l.node-index
