use Rattle.std.proofs.Common.{rules, ◌∙◌, List, ℕ, [], ◌∷◌, ap, subst}
use Rattle.std.proofs.lemmas.Result.{on_ok_weaker}
use Rattle.driver.specs.Absences.{group_news}
use Rattle.driver.specs.Nicks.{AllAreWritten, nick_in, notice}
use Rattle.driver.specs.declared.news.News.{News}
use Rattle.driver.specs.declared.order.Order.TheVariants.{Log}
use Rattle.driver.specs.Telling.{Ordered, ordered}
use Rattle.driver.proofs.driver.Driver.tell_change.Goals as goal

pub returns : goal.returns
returns c =
    let old = c.args.self.now in
    let after = c.notice.new.self.orders in
    let told = ordered old.orders (Log (group_news c.args.is_short) ∷ []) in
    on_ok_weaker c.notice.result (λ written. record {
      written =
          subst (λ (text : List ℕ). AllAreWritten old.clients (notice (nick_in old) text) told after) c.group_words.ensures
          (subst (λ (orders : Ordered). AllAreWritten old.clients (notice (nick_in old) c.group_words.result.now) orders after)
          (c.in_ok-log.ensures ∙ ap (λ (news : News). ordered old.orders (Log news ∷ [])) c.group_news.ensures)
          written);
      rest = search rules;
    })
    c.notice.ensures.told
