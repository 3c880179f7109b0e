use Rattle.std.proofs.Common.{rules, ◌≡◌, ◌∷◌, [], subst}
use Rattle.std.proofs.lemmas.Result.{on_ok_weaker}
use Rattle.driver.specs.declared.order.Order.TheVariants.{Write}
use Rattle.driver.specs.Serving.{IsLost}
use Rattle.driver.specs.Telling.{Ordered, ordered}
use Rattle.driver.proofs.client.Client.send_off.Goals as goal

pub returns : goal.returns
returns c s calls stands =
    let now = c.args.now.now in
    let old = c.args.self.now in
    let written : c.write.new.self ≡ ordered c.args.orders.now (Write old.origin.2 c.in_ok-error.error ∷ []) = search rules in
    on_ok_weaker c.hang_up.result (λ lost.
    record {
      line = c.in_ok-error.error;
      says = search rules;
      lost = subst (λ (orders : Ordered). IsLost now.ms now.at s calls old orders c.hang_up.new.self c.hang_up.new.orders) written lost;
    })
    (c.hang_up.ensures s calls stands)
