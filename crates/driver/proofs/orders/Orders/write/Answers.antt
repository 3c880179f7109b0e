use Rattle.std.proofs.Common.{rules, ◌≡◌, ◌++◌, ◌∷◌, [], List, map, sym, ap, ◌∙◌}
use Rattle.std.proofs.lemmas.Grind.{flat_map-append}
use Rattle.std.proofs.lemmas.List.{append-nil}
use Rattle.driver.specs.declared.order.Order.TheVariants.{Write}
use Rattle.driver.specs.Deeds.{Byte, Deed, deeds, deeds_of, said_in}
use Rattle.driver.specs.Telling.{counts}
use Rattle.driver.proofs.Telling.{counts_push}
use Rattle.driver.proofs.orders.Orders.write.Goals as goal

pub invariant_of-self-2 : goal.invariant_of-self-2
invariant_of-self-2 c =
    let inside = c.self.inside in
    let order = Write c.args.client c.args.bytes in
    let past = said_in inside.said.value in
    let said : said_in c.written.result.value ≡ past ++ order ∷ [] = search rules in
    let bytes = map (Byte c.args.client) c.args.bytes.items in
    let done : deeds c.write.new.self ≡ deeds inside.list ++ bytes = search rules in (
      c.self.invariant.0 ∙ (sym (counts_push inside.before past order) ∙ ap (counts inside.before) (sym said)),
      done
          ∙ (ap (λ (l : List Deed). l ++ bytes) c.self.invariant.1
          ∙ (ap (λ (l : List Deed). deeds past ++ l) (sym (append-nil bytes))
          ∙ (sym (flat_map-append deeds_of past (order ∷ [])) ∙ ap deeds (sym said)))),
    )
