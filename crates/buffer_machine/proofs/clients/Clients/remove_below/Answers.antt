use Rattle.std.proofs.Common.{rules, not, ◌&&◌}
use Rattle.std.specs.Prelude.{◌==◌, nat_lt}
use Rattle.buffer_machine.proofs.Attached.{removed-all}
use Rattle.buffer_machine.proofs.clients.Clients.remove_below.Goals as goal

pub invariant_of-self : goal.invariant_of-self
invariant_of-self c =
    removed-all c.self.inside.set.keys c.self.inside.order.items c.self.invariant (λ a b e. search rules) (λ x. not (x.0 == c.args.node && nat_lt x.1 c.args.floor)) c.remove_from_set.ensures c.remove_from.ensures
