use Rattle.std.proofs.Common.{rules, ◌≡◌, ◌∷◌, ◌∙◌, ℕ, [], ap, Option, Some, subst, sym}
use Rattle.std.proofs.lemmas.List.{append_assoc}
use Rattle.std.proofs.lemmas.Result.{on_ok_weaker}
use Rattle.client_gate.specs.Calls.{gate}
use Rattle.driver.specs.declared.eviction.Eviction.{Eviction}
use Rattle.driver.specs.declared.news.News.TheVariants.{Evicted}
use Rattle.driver.specs.declared.order.Order.{Order}
use Rattle.driver.specs.declared.order.Order.TheVariants.{Log, Write}
use Rattle.driver.specs.Evicting.{IsToldWhy, eviction_in}
use Rattle.driver.specs.Telling.{Ordered, ordered}
use Rattle.driver.proofs.client.Client.tell_eviction.Goals as goal

pub returns : goal.returns
returns c s calls stands =
    let client = c.args.self.now in
    let before = c.args.orders.now in
    let why = c.in-Some.why in
    let write = Write client.origin.2 c.in_ok-line.line in
    let told : c.log.new.self ≡ ordered before (Log (Evicted client.origin why) ∷ []) = search rules in
    let is : Some why ≡ eviction_in (gate s calls).waiting client c.args.effect.now = sym c.in-Some.is ∙ c.eviction_by.ensures s calls stands in
    let number : c.client.result ≡ client.origin.2 = search rules in
    on_ok_weaker c.write.result (λ wrote.
    subst (λ (found : Option Eviction). IsToldWhy found client before c.write.new.self) is (
      c.in_ok-line.line,
      search rules,
      wrote ∙ ap (λ (client : ℕ). ordered c.log.new.self (Write client c.in_ok-line.line ∷ [])) number ∙ ap (λ (orders : Ordered). ordered orders (write ∷ [])) told
          ∙ ap (λ (items : _). record before { items = items }) (append_assoc before.items (Log (Evicted client.origin why) ∷ []) (write ∷ [])),
    ))
    c.write.ensures
