use Rattle.std.specs.BTreeMap.{keys}
use Rattle.std.specs.Vec.Iter.{into_iter_items}
use Rattle.driver.specs.Crowds.{WordEach, Told, told}
use Rattle.driver.proofs.clients.Clients.hear_node.Given as goal

-- once those left are done, all are
abbrev pub invariant-loop-number : goal.invariant-loop-number
invariant-loop-number l =
    (new : Told) → WordEach l.now.at l.now.ms l.node l.lost l.is_refused (into_iter_items l.number-iterator) (told l.self l.orders) new
    → WordEach l.now.at l.now.ms l.node l.lost l.is_refused (keys l.initial.self.all) (told l.initial.self l.initial.orders) new
