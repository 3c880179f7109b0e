use Rattle.std.specs.BTreeMap.{keys}
use Rattle.std.specs.Vec.Iter.{into_iter_items}
use Rattle.driver.specs.Crowds.{CutEach, Told, told}
use Rattle.driver.proofs.clients.Clients.cut_off.Given as goal

-- once those left are done, all are
abbrev pub invariant-loop-number : goal.invariant-loop-number
invariant-loop-number l =
    (new : Told) → CutEach l.why l.node (into_iter_items l.number-iterator) (told l.self l.orders) new
    → CutEach l.why l.node (keys l.initial.self.all) (told l.initial.self l.initial.orders) new
