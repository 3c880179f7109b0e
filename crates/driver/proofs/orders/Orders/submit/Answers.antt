use Rattle.std.proofs.Common.{◌++◌, ◌∷◌, [], ℕ, ◌-◌, ◌∙◌, sym, ap, slice_set}
use Rattle.driver.specs.declared.order.Order.TheVariants.{Submit}
use Rattle.driver.specs.Deeds.{said_in}
use Rattle.driver.specs.Telling.{Ordered, counts, next_note}
use Rattle.driver.proofs.Telling.{tell_counts}
use Rattle.driver.proofs.orders.Orders.submit.Goals as goal

pub add-requires-clause-counted : goal.add-requires-clause-counted
add-requires-clause-counted c =
    let inside = c.self.inside in
    let node = c.args.node in
    let number = c.next-number.result in
    let said = said_in inside.said.value in
    let next = c.next-number.ensures ∙ ap (λ (orders : Ordered). next_note orders node) (sym c.self.view_is) in
    ap (λ (node : ℕ). slice_set inside.told (node - 1) number) c.value.ensures.value
    ∙ (tell_counts inside.told inside.before said node c.args.note number c.self.invariant.0 next
    ∙ ap (λ (orders : Ordered). counts orders.before (orders.items ++ Submit node c.args.note ∷ [])) c.self.view_is)
