use Rattle.std.proofs.Common.{◌≡◌, ℕ, List, rules, subst}
use Rattle.std.proofs.lemmas.Result.{on_ok_weaker}
use Rattle.client_gate.specs.Gates.{GateEffect}
use Rattle.driver.specs.Crowds.{told}
use Rattle.driver.specs.Driving.{told_of}
use Rattle.driver.specs.Evicting.{IsEvicted}
use Rattle.driver.specs.Nicks.{nick_in}
use Rattle.driver.specs.Passing.{HearsOne}
use Rattle.driver.specs.Rewording.{reworded}
use Rattle.driver.specs.Rosters.{client_at}
use Rattle.driver.proofs.driver.Driver.tell_client.Goals as goal

pub returns-clause-hears : goal.returns-clause-hears
returns-clause-hears c =
    let old = c.args.self.now in
    let evicted = c.tell_eviction.new.orders in
    let behind = told old.clients evicted in
    let new = told c.hear.new.self c.hear.new.orders in
    let now = c.args.now.now in
    let heard = c.hear.ensures in
    let nick : c.as_bytes-nick.result.now ≡ nick_in old = search rules in
    let effect : c.unwrap_or-effect.result.now ≡ reworded c.as_bytes-nick.result.now c.args.effect.now = search rules in
    let evicts : IsEvicted (client_at old.clients c.args.origin.2) c.args.origin c.args.effect.now old.orders evicted = search rules in
    on_ok_weaker c.hear.result (λ served.
    record {
      told = evicted;
      evicts = evicts;
      hears =
          subst (λ (nick : List ℕ). HearsOne now.ms now.at nick c.args.origin (reworded nick c.args.effect.now) behind new) nick
          (subst (λ (effect : GateEffect). HearsOne now.ms now.at c.as_bytes-nick.result.now c.args.origin effect behind new) effect
          (record { others = heard.others; nobody = heard.nobody; stranger = heard.stranger; served = served }));
    })
    heard.served
