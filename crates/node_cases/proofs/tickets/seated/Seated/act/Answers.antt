use Rattle.std.proofs.Common.{rules, arith, ◌≡◌, ◌+◌, ◌<◌, suc, length}
use Rattle.ether.specs.Passes.{view_of}
use Rattle.node_cases.proofs.Seating.{first_behind}
use Rattle.node_cases.proofs.tickets.seated.Seated.act.Goals as goal

pub returns-clause-message : goal.returns-clause-message
returns-clause-message g c =
    let some : 0 < length c.in_ok-ticket.messages.items = omega (arith, c.swap_remove-message.ensures.len, c.in_ok-ticket.messages.ok.0) in
    let number : c.in-Some.number ≡ c.args.self.now.sent + 1 = search rules in
    let node : (view_of c.turn.new.self.pass).node ≡ c.turn.new.self.pass.node = c.in_ok-ticket.ensures.seated.opened.0.node in
    let from : c.swap_remove-message.result.from ≡ suc (view_of c.turn.new.self.pass).node = omega (arith, node, c.node.ensures, c.if-message-eq0.false, c.if-message-node.false) in
    (from, λ honest. first_behind _ _ _ _ _ _ c.in_ok-ticket.ensures.sends c.requires.seated.count number some c.swap_remove-message.ensures.value)
