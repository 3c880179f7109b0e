use Rattle.std.proofs.Common.{◌≡◌}
use Rattle.std.specs.Vec.Iter.{into_iter_items}
use Rattle.driver.specs.Clients.{asks_of}
use Rattle.driver.specs.Telling.{ordered}
use Rattle.driver.proofs.client.asking.ask_each.Given as goal

-- what was asked and what is left to ask are all that is asked
abbrev pub invariant-loop-request : goal.invariant-loop-request
invariant-loop-request l =
    ordered l.orders (asks_of l.origin l.now.at (into_iter_items l.request-iterator))
    ≡ ordered l.initial.orders (asks_of l.origin l.now.at l.fn.requests.items)
