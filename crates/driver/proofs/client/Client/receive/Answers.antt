use Rattle.std.proofs.Common.{rules, ◌≡◌, ℕ, ◌∷◌, ◌∙◌, [], ap, Bool, true, false, sym, subst, inl, inr}
use Rattle.client_gate.specs.Calls.{Feed, Stands, fed_answer, gate}
use Rattle.client_gate.specs.Gates.{Given, is_turned_down}
use Rattle.driver.specs.declared.client.Client.{Client}
use Rattle.driver.specs.Clients.{is_shut}
use Rattle.driver.specs.Monitors.{at}
use Rattle.driver.specs.Serving.{HasTaken, Says, TakesBy}
use Rattle.driver.proofs.Refusing.{takes_of}
use Rattle.driver.proofs.client.Client.receive.Goals as goal

pub returns-in_ok-words-in-Ok : goal.returns-in_ok-words-in-Ok
returns-in_ok-words-in-Ok c s calls stands =
    let now = c.args.now.now in
    let fed = Feed c.args.bytes.now ∷ calls in
    let stays : is_shut c.args.self.now ≡ false = search rules in
    let begun = c.begin_asking.ensures s calls stands in
    let kept = subst (λ (client : Client). Stands s calls client.gate) (sym begun) stands in
    let behind = c.in-Ok.ensures.stands s calls kept in
    let asking = c.begin_asking.new.self in
    let wrong = is_turned_down (gate s fed).phase in
    record {
      receives = record {
        hears =
            λ _.
            inl
            (subst
            (λ (x : Client). HasTaken s fed (fed_answer s calls c.args.bytes.now) now.ms now.at c.args.due (record x { heard = at now.ms; is_pinged = false }) c.args.orders.now c.take.new.self c.take.new.orders)
            begun
            (record {
              fed = c.in-Ok.fed;
              is = c.in-Ok.ensures.answer s calls kept;
              takes =
                  subst
                  (λ (since : ℕ). TakesBy wrong s fed c.in-Ok.fed now.ms now.at c.args.due (record asking { heard = record { since = since }; is_pinged = false }) c.args.orders.now c.take.new.self c.take.new.orders)
                  c.from-self.ensures
                  (takes_of wrong s fed c.in-Ok.fed now.ms now.at c.args.due (record asking { heard = c.from-self.result; is_pinged = false })
                  c.feed.new.self c.args.orders.now c.take.new.self c.take.new.orders (c.in_ok-words-in-Ok.ensures.taken s fed behind));
            }));
        shut = λ is. absurd (cc (is, stays));
      };
      says =
          subst (λ (b : Bool). Says b c.take.new.self.is_gone (fed_answer s calls c.args.bytes.now).words c.in_ok-words-in-Ok.words.items) (sym stays)
          (inl (c.in_ok-words-in-Ok.ensures.said ∙ ap (λ (given : Given). given.words) (c.in-Ok.ensures.answer s calls kept)));
    }
