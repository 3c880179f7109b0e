use Rattle.std.proofs.Common.{◌∙◌, ℕ, List, subst}
use Rattle.std.proofs.lemmas.Result.{on_ok_weaker}
use Rattle.driver.specs.Nicks.{AllAreWritten, nick_in, notice}
use Rattle.driver.proofs.driver.Driver.tell_dropped.Goals as goal

pub returns : goal.returns
returns c =
    let old = c.args.self.now in
    on_ok_weaker c.notice.result (λ told. record {
      written =
          subst (λ (text : List ℕ). AllAreWritten old.clients (notice (nick_in old) text) old.orders c.notice.new.self.orders)
          (c.as_slice.ensures.value ∙ c.in_ok-text.ensures) told;
      rest = c.notice.ensures.rest;
    })
    c.notice.ensures.told
