use Rattle.std.proofs.Common.{◌≡◌, ◌∙◌, ℕ, List, [], ◌∷◌, ap, subst, sym}
use Rattle.driver.specs.declared.driver.Driver.{Driver}
use Rattle.driver.specs.Answering.{AreTold}
use Rattle.driver.specs.Dropping.{drop_words, dropping_begun, waiting_left}
use Rattle.driver.specs.Nicks.{nick_in}
use Rattle.driver.specs.Rosters.{client_at}
use Rattle.driver.specs.Telling.{Ordered}
use Rattle.driver.proofs.driver.Driver.drop_waiting.Goals as goal

pub returns-clause-dropped : goal.returns-clause-dropped
returns-clause-dropped c =
    let old = c.args.self.now in
    let told = c.tell_lines.new.self in
    let new = c.drop_if.new.self in
    let waits = c.waits-waits.result in
    let found = client_at old.clients c.args.number in
    let orders : told.orders ≡ new.orders = sym (ap (λ (driver : Driver). driver.orders) c.drop_if.ensures) in
    let left : Driver → Driver =
    λ driver. record driver {
      dropping = dropping_begun waits driver.link.waiting driver.dropping;
      link = record driver.link { waiting = waiting_left waits driver.link.waiting };
    }
    in
    record {
      drops = record {
        waits = waits;
        may_wait = c.waits-waits.ensures;
        rest = c.drop_if.ensures ∙ ap left c.tell_lines.ensures.rest ∙ ap (λ (orders : Ordered). left (record old { orders = orders })) orders;
      };
      told =
          subst (λ (after : Ordered). AreTold (drop_words waits ∷ []) found (nick_in old) old.orders after) orders
          (subst (λ (text : List ℕ). AreTold (text ∷ []) found (nick_in old) old.orders told.orders) c.drop_words.ensures c.in_ok-tell_lines.ensures.told);
    }
