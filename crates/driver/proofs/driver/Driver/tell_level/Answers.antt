use Rattle.std.proofs.Common.{rules, ℕ, List, [], ◌∷◌, subst}
use Rattle.std.proofs.lemmas.Result.{on_ok_weaker}
use Rattle.driver.specs.Nicks.{AllAreWritten, nick_in, notice}
use Rattle.driver.specs.declared.news.News.TheVariants.{LogFills}
use Rattle.driver.specs.declared.order.Order.TheVariants.{Log}
use Rattle.driver.specs.Telling.{Ordered, ordered}
use Rattle.driver.proofs.driver.Driver.tell_level.Goals as goal

pub returns : goal.returns
returns c =
    let old = c.args.self.now in
    let after = c.notice.new.self.orders in
    let told = ordered old.orders (Log (LogFills c.args.node c.args.level) ∷ []) in
    on_ok_weaker c.notice.result (λ written. record {
      written =
          subst (λ (text : List ℕ). AllAreWritten old.clients (notice (nick_in old) text) told after) c.words.ensures
          (subst (λ (orders : Ordered). AllAreWritten old.clients (notice (nick_in old) c.words.result.now) orders after) c.in_ok-log.ensures written);
      rest = search rules;
    })
    c.notice.ensures.told
