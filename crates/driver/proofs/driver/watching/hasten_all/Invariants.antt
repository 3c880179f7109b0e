use Rattle.std.proofs.Common.{◌≡◌, ◌++◌, map, take, drop}
use Rattle.driver.specs.Absences.{hastened}
use Rattle.driver.proofs.driver.watching.hasten_all.Given as goal

-- those before the place are started again soon, the others not yet
abbrev pub invariant-loop-monitor : goal.invariant-loop-monitor
invariant-loop-monitor l =
    l.monitors ≡ map hastened (take l.monitor-index l.initial.monitors) ++ drop l.monitor-index l.initial.monitors
