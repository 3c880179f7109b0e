use Rattle.std.specs.BTreeMap.{keys}
use Rattle.std.specs.Vec.Iter.{into_iter_items}
use Rattle.driver.specs.Answering.{ListEach}
use Rattle.driver.specs.Rosters.{client_at}
use Rattle.driver.specs.Telling.{Ordered}
use Rattle.driver.proofs.clients.Clients.list_to.Given as goal

-- once what is left is listed, all are
abbrev pub invariant-loop-listed : goal.invariant-loop-listed
invariant-loop-listed l =
    (new : Ordered) → ListEach (into_iter_items l.listed-iterator) l.self (client_at l.self l.number) l.nick l.orders new
    → ListEach (keys l.self.all) l.self (client_at l.self l.number) l.nick l.initial.orders new
