use Rattle.std.proofs.Common.{rules, ◌∷◌, sym, subst, inl}
use Rattle.client_gate.specs.Calls.{Hear, Stands}
use Rattle.client_gate.specs.Gates.{given_effect}
use Rattle.driver.specs.declared.client.Client.{Client}
use Rattle.driver.specs.Asking.{held_behind}
use Rattle.driver.specs.Opening.{open_behind}
use Rattle.driver.specs.Serving.{HasPassed}
use Rattle.driver.proofs.client.Client.hear_effect.Goals as goal

pub returns-in_ok-pass-in-Ok : goal.returns-in_ok-pass-in-Ok
returns-in_ok-pass-in-Ok c s calls stands =
    let effect = c.args.effect.now in
    let heard = Hear effect ∷ calls in
    let begun = c.begin_asking.ensures s calls stands in
    let kept = subst (λ (client : Client). Stands s calls client.gate) (sym begun) stands in
    let behind = c.in-Ok.ensures.stands s calls kept in
    let followed = subst (λ (client : Client). Stands s heard client.gate) (sym c.in_ok-follow-in-Ok.ensures) behind in
    let so = c.in_ok-pass-in-Ok.ensures.stands s heard followed in
    let done : HasPassed s heard (given_effect s effect) c.args.now.now.ms c.args.now.now.at c.follow.new.self c.args.orders.now c.pass.new.self c.pass.new.orders =
    record {
      fed = c.in-Ok.fed;
      is = search rules;
      orders = c.in_ok-pass-in-Ok.ensures.passed s heard followed;
      stands = record { gate = so.gate; rest = search rules };
    } in
    let told =
    subst
    (λ (x : Client). HasPassed s heard (given_effect s effect) c.args.now.now.ms c.args.now.now.at x c.args.orders.now c.pass.new.self c.pass.new.orders)
    c.in_ok-follow-in-Ok.ensures
    done in
    inl
    (subst
    (λ (x : Client). HasPassed s heard (given_effect s effect) c.args.now.now.ms c.args.now.now.at (record x { is_held_up = held_behind effect x.is_held_up; channels = open_behind c.args.nick.now effect x.channels }) c.args.orders.now c.pass.new.self c.pass.new.orders)
    begun
    (record { fed = told.fed; is = told.is; orders = told.orders; stands = record { gate = told.stands.gate; rest = rw (← c.is_held_behind-self.ensures) told.stands.rest } }))
