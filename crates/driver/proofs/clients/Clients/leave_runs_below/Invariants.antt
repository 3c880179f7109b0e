use Rattle.std.specs.BTreeMap.{keys}
use Rattle.std.specs.Vec.Iter.{into_iter_items}
use Rattle.driver.specs.Crowds.{Told, LeaveEach, told}
use Rattle.driver.proofs.clients.Clients.leave_runs_below.Given as goal

-- once those left are done, all are
abbrev pub invariant-loop-number : goal.invariant-loop-number
invariant-loop-number l =
    (new : Told) → LeaveEach l.now.at l.node l.boot (into_iter_items l.number-iterator) (told l.self l.orders) new
    → LeaveEach l.now.at l.node l.boot (keys l.initial.self.all) (told l.initial.self l.initial.orders) new
