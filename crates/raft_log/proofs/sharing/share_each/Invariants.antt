use Rattle.std.proofs.Common.{◌≡◌}
use Rattle.raft_log.proofs.sharing.share_each.Given as goal

abbrev pub invariant-loop-place : goal.invariant-loop-place
invariant-loop-place g l = l.blocks.items ≡ l.initial.blocks.items
