use Rattle.std.proofs.Common.{◌-◌}
use Rattle.driver.specs.declared.driver.Driver.{Driver}
use Rattle.driver.specs.Absences.{HangNodes}
use Rattle.driver.proofs.driver.Driver.cut_off_hanging.Given as goal

-- once the nodes from this one on were looked at, all were
abbrev pub invariant-loop-id : goal.invariant-loop-id
invariant-loop-id l =
    (new : Driver) → HangNodes (8 - l.id) l.now.ms l.id l.self new → HangNodes 7 l.now.ms 1 l.initial.self new
