use Rattle.std.proofs.Common.{◌≡◌, ◌++◌}
use Rattle.raft_log.proofs.blocks.Blocks.with_all.Given as goal

abbrev pub invariant-loop-item : goal.invariant-loop-item
invariant-loop-item g l = l.self ≡ l.fn.self ++ l.yielded
