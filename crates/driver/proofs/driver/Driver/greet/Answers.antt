use Rattle.std.proofs.Common.{◌≡◌, ◌∙◌, Bool, false, ap, rules, subst}
use Rattle.std.proofs.lemmas.Result.{on_ok_weaker}
use Rattle.driver.specs.declared.driver.Driver.{Driver}
use Rattle.driver.specs.Nicks.{AreMissed, IsGreeted, IsNamedIn, IsToldOf, IsWarned, IsWritten, missing_in, nick_in, no_motd, warned}
use Rattle.driver.specs.Rosters.{client_at}
use Rattle.driver.proofs.driver.Driver.greet.Goals as goal

pub returns-clause-told : goal.returns-clause-told
returns-clause-told c =
    let old = c.args.self.now in
    let now = c.args.now.now.ms in
    let number = c.args.number in
    let found = client_at old.clients number in
    let new = c.tell_absent.new.self in
    let short = c.warn.new.self.orders in
    let missed = c.tell_missing.new.self.orders in
    let names : IsNamedIn found (nick_in old) old.orders c.tell_nick.new.orders = search rules in
    let ends : IsWritten found (no_motd (nick_in old)) c.tell_nick.new.orders c.tell.new.orders = search rules in
    let warns : IsWarned old.is_short found (nick_in old) c.tell.new.orders short = search rules in
    let none : false ≡ c.args.was_attached = search rules in
    let misses : IsToldOf (missing_in old now) found (nick_in old) short missed =
    subst (λ (driver : Driver). IsToldOf (missing_in driver now) (client_at driver.clients number) (nick_in driver) driver.orders missed)
    c.warn.ensures.rest c.in_ok-tell_missing.ensures.told
    in
    let behind : c.tell_missing.new.self ≡ record old { orders = missed } =
    c.tell_missing.ensures.rest ∙ ap (λ (driver : Driver). record driver { orders = missed }) c.warn.ensures.rest
    in
    on_ok_weaker c.tell_absent.result (λ told.
    let absent : AreMissed old.link.absent.channels found (nick_in old) missed new.orders =
    subst (λ (driver : Driver). AreMissed driver.link.absent.channels (client_at driver.clients number) (nick_in driver) driver.orders new.orders)
    behind told
    in
    subst (λ (was : Bool). IsGreeted was (warned old now) found (nick_in old) old.orders new.orders) none
    record {
      named = c.tell_nick.new.orders;
      ended = c.tell.new.orders;
      short = short;
      missed = missed;
      names = names;
      ends = ends;
      warns = warns;
      misses = misses;
      absent = absent;
    })
    c.tell_absent.ensures.told
