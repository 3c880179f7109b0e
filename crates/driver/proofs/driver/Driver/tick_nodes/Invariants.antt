use Rattle.std.proofs.Common.{◌-◌}
use Rattle.driver.specs.declared.driver.Driver.{Driver}
use Rattle.driver.specs.Driving.{TickNodes}
use Rattle.driver.proofs.driver.Driver.tick_nodes.Given as goal

-- once the nodes from this one on tick, all have
abbrev pub invariant-loop-id : goal.invariant-loop-id
invariant-loop-id l =
    (new : Driver) → TickNodes (8 - l.id) l.now.ms l.id l.self new → TickNodes 7 l.now.ms 1 l.initial.self new
