use Rattle.std.proofs.Common.{rules, ◌≡◌, suc}
use Rattle.node_cases.proofs.Seating.{first_as}
use Rattle.node_cases.proofs.tickets.seated.Seated.open.Goals as goal

pub opening-ticket-requires-clause-node : goal.opening-ticket-requires-clause-node
opening-ticket-requires-clause-node g c =
    let id : c.new-id.result ≡ suc c.args.pass.node = search rules in
    (c.args.store, first_as _ _ _ _ _ _ _ _ _ id c.size.ensures c.setup.ensures c.in_ok-node.ensures)
