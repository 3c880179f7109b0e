use Rattle.std.specs.BTreeMap.{keys}
use Rattle.std.specs.Vec.Iter.{into_iter_items}
use Rattle.driver.specs.Crowds.{Told, TickEach, told}
use Rattle.driver.proofs.clients.Clients.tick.Given as goal

-- once those left are done, all are
abbrev pub invariant-loop-number : goal.invariant-loop-number
invariant-loop-number l =
    (new : Told) → TickEach l.now.at l.timeout_ms l.now.ms l.monitors (into_iter_items l.number-iterator) (told l.self l.orders) new
    → TickEach l.now.at l.timeout_ms l.now.ms l.monitors (keys l.initial.self.all) (told l.initial.self l.initial.orders) new
