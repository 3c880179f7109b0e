use Rattle.std.proofs.Common.{rules, ◌≡◌, ◌∷◌, ◌∙◌, [], Bool, List, ap, false, sym, subst}
use Rattle.driver.specs.declared.order.Order.{Order}
use Rattle.driver.specs.declared.order.Order.TheVariants.{Close, Write}
use Rattle.driver.specs.Clients.{left_news}
use Rattle.driver.specs.Outages.{IsToldIf}
use Rattle.driver.specs.Telling.{Ordered, ordered}
use Rattle.driver.proofs.Telling.{two_and_more}
use Rattle.driver.proofs.client.Client.hear_absence.Goals as goal

pub returns : goal.returns
returns c =
    let client = c.args.self.now in
    let before = c.args.orders.now in
    let write = Write client.origin.2 c.extend_from_slice.new.self in
    let close = Close client.origin.2 in
    let left = left_news client.is_attached client.origin in
    let stays : client.is_gone ≡ false = search rules in
    let told : c.tell_left.new.orders ≡ ordered (ordered (ordered before (write ∷ [])) (close ∷ [])) left = search rules in
    subst
    (λ (b : Bool). IsToldIf b c.args.why client before c.tell_left.new.orders)
    (sym stays)
    (c.extend_from_slice.new.self, search rules, told ∙ two_and_more before write close left)
