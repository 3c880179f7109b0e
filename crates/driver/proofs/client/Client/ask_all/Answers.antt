use Rattle.std.proofs.Common.{rules, ◌≡◌, ◌∙◌, ◌∷◌, ℕ, List, Option, OnOk, true, false, [], ap, subst, arith, length}
use Rattle.std.proofs.lemmas.Grind.{common_steps}
use Rattle.driver.specs.declared.client.Client.{Client}
use Rattle.driver.specs.declared.news.News.TheVariants.{Attached}
use Rattle.driver.specs.declared.order.Order.TheVariants.{Log}
use Rattle.driver.specs.Clients.{name_asked, welcome}
use Rattle.driver.specs.Cycling.{reworded}
use Rattle.driver.specs.Telling.{Ordered, ordered}
use Rattle.driver.proofs.Cycling.{asked_behind, first_told, later_told}
use Rattle.driver.proofs.client.Client.ask_all.Goals as goal
use Rattle.driver.proofs.client.Client.ask_all.Goals.{then-not-self+in_ok-self+in_ok-name+in_ok-log, else-not-self}

pub returns-clause-asked : goal.returns-clause-asked
returns-clause-asked c =
    let old = c.args.self.now in
    let behind = c.if-not-self.self in
    let some : c.args.requests.items ≡ [] → ⊥ = λ none. grind (arith, common_steps, ap length none) in
    let first : c.if-not-self.orders ≡ ordered c.args.orders.now (welcome old.is_attached old.origin (name_asked c.args.requests.items)) =
    elim c.if-not-self.branch [
      | then-not-self+in_ok-self+in_ok-name+in_ok-log w ↦ let is : old.is_attached ≡ false = search rules in
          let name : w.in_ok-name.name ≡ name_asked c.args.requests.items = search rules in
          first_told old.is_attached old.origin (name_asked c.args.requests.items) c.args.orders.now c.if-not-self.orders is
          (w.orders-is ∙ w.in_ok-log.ensures
          ∙ ap (λ (name : Option (List ℕ)). ordered c.args.orders.now (Log (Attached old.origin name) ∷ [])) name)
      | else-not-self w ↦ let is : old.is_attached ≡ true = search rules in later_told old.is_attached old.origin (name_asked c.args.requests.items) c.args.orders.now c.if-not-self.orders is w.orders-is
    ]
    in
    let shown : behind.channels ≡ old.channels =
    elim c.if-not-self.branch [
      | then-not-self+in_ok-self+in_ok-name+in_ok-log w ↦ ap (λ (client : Client). client.channels) w.self-is
      | else-not-self w ↦ ap (λ (client : Client). client.channels) w.self-is
    ]
    in
    let parting : behind.parting ≡ old.parting =
    elim c.if-not-self.branch [
      | then-not-self+in_ok-self+in_ok-name+in_ok-log w ↦ ap (λ (client : Client). client.parting) w.self-is
      | else-not-self w ↦ ap (λ (client : Client). client.parting) w.self-is
    ]
    in
    let origin : behind.origin ≡ old.origin =
    elim c.if-not-self.branch [
      | then-not-self+in_ok-self+in_ok-name+in_ok-log w ↦ ap (λ (client : Client). client.origin) w.self-is
      | else-not-self w ↦ ap (λ (client : Client). client.origin) w.self-is
    ]
    in
    let own : c.reword.new.self.origin ≡ old.origin = ap (λ (client : Client). client.origin) c.in_ok-told.ensures.rest ∙ origin in
    let told : c.in_ok-told.told.items ≡ reworded old.channels old.parting c.args.requests.items =
    c.in_ok-told.ensures.told
    ∙ ap (λ (names : List (List ℕ)). reworded names behind.parting c.args.requests.items) shown
    ∙ ap (λ (names : List (List ℕ)). reworded old.channels names c.args.requests.items) parting
    in
    subst (λ (orders : Ordered). OnOk c.ask_each.result (c.ask_each.new.orders ≡ orders))
    (asked_behind old.is_attached old.origin c.reword.new.self.origin (name_asked c.args.requests.items) c.args.now.now.at old.channels old.parting c.args.requests.items c.in_ok-told.told.items c.args.orders.now c.if-not-self.orders some first own told)
    c.ask_each.ensures
