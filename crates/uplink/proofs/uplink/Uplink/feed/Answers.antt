use Rattle.std.proofs.Common.{◌≡◌, ◌++◌, [], ap, rules, sym, ◌∙◌}
use Rattle.std.specs.Prelude.{OnErr, Result, Ok, Err}
use Rattle.uplink.specs.declared.session.Session.{Session}
use Rattle.uplink.specs.declared.standing.Standing.TheVariants.{Live, Lost}
use Rattle.uplink.specs.Calls.{GoesOn, Link, inputs_of, replies_of}
use Rattle.uplink.specs.Calls.Call.{Failed}
use Rattle.uplink.proofs.Moments.{failed_after, failed_inputs, failed_replies, fed_after, fed_inputs, fed_replies, late_after, late_inputs, late_replies}
use Rattle.uplink.proofs.uplink.Uplink.feed.Goals as goal

-- if memory runs out, a live uplink is lost
lost : {T E : Type 0} → (r : Result T E) (link new : Link) (s : Session) → link.standing ≡ Live s → new.standing ≡ Lost → OnErr r (GoesOn link Failed new [] [])
lost (Ok v) link new s l n = tt
lost (Err e) link new s l n =
    record {
      after = λ nick calls h. failed_after link new s nick calls l n h;
      inputs = λ nick calls h. failed_inputs nick calls;
      replies = λ nick calls h. failed_replies nick calls;
    }

pub returns-in_err-items-in-Live-clause-err : goal.returns-in_err-items-in-Live-clause-err
returns-in_err-items-in-Live-clause-err c =
    let was = ap (λ (l : Link). l.standing) (sym c.self.view_is) ∙ sym c.replace.ensures.value ∙ c.in-Live.is in
    lost c.from_residual.result c.args.self.now _ c.in-Live.session was c.replace.ensures.after

pub returns-in_err-session-in-Live-clause-err : goal.returns-in_err-session-in-Live-clause-err
returns-in_err-session-in-Live-clause-err c =
    let was = ap (λ (l : Link). l.standing) (sym c.self.view_is) ∙ sym c.replace.ensures.value ∙ c.in-Live.is in
    lost c.from_residual-in_err-session-in-Live.result c.args.self.now _ c.in-Live.session was c.replace.ensures.after

pub returns-in_ok-session-in-Live-clause-ok : goal.returns-in_ok-session-in-Live-clause-ok
returns-in_ok-session-in-Live-clause-ok c =
    let was = ap (λ (l : Link). l.standing) (sym c.self.view_is) ∙ sym c.replace.ensures.value ∙ c.in-Live.is in
    let link = c.args.self.now in
    let session = c.in-Live.session in
    let bytes = c.args.bytes.now in
    let got = c.in_ok-items-in-Live.items.items in
    record {
      after = λ nick calls h. fed_after link _ session bytes got nick calls was (search rules) (search rules) (search rules) h;
      inputs = λ nick calls h. ap (λ t. inputs_of nick calls ++ t) c.in_ok-session-in-Live.ensures.inputs ∙ fed_inputs link session bytes got nick calls was (search rules) h;
      replies = λ nick calls h. ap (λ t. replies_of nick calls ++ t) c.in_ok-session-in-Live.ensures.reply ∙ fed_replies link session bytes got nick calls was (search rules) h;
    }

pub returns-in_default-clause-ok : goal.returns-in_default-clause-ok
returns-in_default-clause-ok c =
    let same = ap (λ (l : Link). l.standing) (sym c.self.view_is) ∙ sym c.replace.ensures.value in
    let link = c.args.self.now in
    let bytes = c.args.bytes.now in
    let dead : (s : Session) → c.args.self.now.standing ≡ Live s → ⊥ = λ s l. c.in_default.not-Live s (sym same ∙ l) in
    record {
      after = λ nick calls h. late_after link _ bytes nick calls dead (sym same) h;
      inputs = λ nick calls h. ap (λ t. inputs_of nick calls ++ t) c.nothing.ensures.inputs ∙ late_inputs link bytes nick calls dead h;
      replies = λ nick calls h. ap (λ t. replies_of nick calls ++ t) c.nothing.ensures.reply ∙ late_replies link bytes nick calls dead h;
    }
