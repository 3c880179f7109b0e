use Rattle.std.proofs.Common.{◌≡◌, map}
use Rattle.raft_log.proofs.log.bodies_of.Given as goal

abbrev pub invariant-loop-entry : goal.invariant-loop-entry
invariant-loop-entry g l = l.bodies.items ≡ map (λ e. e.body) l.yielded
