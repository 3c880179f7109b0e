use Rattle.std.specs.BTreeMap.{keys}
use Rattle.std.specs.Vec.Iter.{into_iter_items}
use Rattle.driver.specs.Crowds.{Told, told}
use Rattle.driver.specs.Kicks.{KickEach}
use Rattle.driver.proofs.clients.Clients.kick_all.Given as goal

-- once those left are done, all are
abbrev pub invariant-loop-number : goal.invariant-loop-number
invariant-loop-number l =
    (new : Told) → KickEach l.channel l.text (into_iter_items l.number-iterator) (told l.self l.orders) new
    → KickEach l.channel l.text (keys l.initial.self.all) (told l.initial.self l.initial.orders) new
