use Rattle.std.proofs.Common.{◌≡◌, ◌-◌, take, drop}
use Rattle.raft_log.proofs.log.Log.copied_behind.Given as goal

abbrev pub invariant-loop-before : goal.invariant-loop-before
invariant-loop-before g l = l.entries.items ≡ take (l.before - l.fn.index) (drop l.fn.index l.self)
