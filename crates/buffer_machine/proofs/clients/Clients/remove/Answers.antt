use Rattle.std.proofs.Common.{rules, not}
use Rattle.std.proofs.lemmas.Fn.{filter_same}
use Rattle.machine_laws.specs.Origins.{same_origin}
use Rattle.buffer_machine.proofs.Attached.{removed-one}
use Rattle.buffer_machine.proofs.clients.Clients.remove.Goals as goal

pub returns : goal.returns
returns c = rw (← c.self.view_is) (filter_same _ (λ x. not (same_origin c.args.origin x)) _ (λ x b q r. search rules) _ _ c.retain.ensures.filtered)

pub invariant_of-self : goal.invariant_of-self
invariant_of-self c =
    removed-one c.self.inside.order.items c.args.origin c.take_out.ensures c.self.invariant (filter_same _ (λ x. not (same_origin c.args.origin x)) _ (λ x b q r. search rules) _ _ c.retain.ensures.filtered)
