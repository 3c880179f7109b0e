use Rattle.std.specs.Prelude.{◌-◌}
use Rattle.driver.specs.Leading.{IsBest}
use Rattle.driver.proofs.leader.leader_of.Given as goal

-- the best of the nodes before this one
abbrev pub invariant-loop-id : goal.invariant-loop-id
invariant-loop-id l = IsBest l.monitors (l.id - 1) l.best
