use Rattle.std.specs.BTreeMap.{keys}
use Rattle.std.specs.Vec.Iter.{into_iter_items}
use Rattle.driver.specs.Crowds.{DismissEach, Told, told}
use Rattle.driver.proofs.clients.Clients.dismiss_all.Given as goal

-- once those left are done, all are
abbrev pub invariant-loop-number : goal.invariant-loop-number
invariant-loop-number l =
    (new : Told) → DismissEach l.now.at l.now.ms (into_iter_items l.number-iterator) (told l.self l.orders) new
    → DismissEach l.now.at l.now.ms (keys l.initial.self.all) (told l.initial.self l.initial.orders) new
