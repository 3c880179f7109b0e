use Rattle.std.proofs.Common.{◌≡◌, ◌++◌, map, take, drop}
use Rattle.driver.specs.Waking.{waited_longer}
use Rattle.driver.proofs.driver.ticking.wait_longer.Given as goal

-- those before the place waited longer, the others do not yet
abbrev pub invariant-loop-monitor : goal.invariant-loop-monitor
invariant-loop-monitor l =
    l.monitors ≡ map (waited_longer l.ms) (take l.monitor-index l.initial.monitors) ++ drop l.monitor-index l.initial.monitors
