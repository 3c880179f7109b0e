use Rattle.std.proofs.Common.{◌≡◌, ◌⊎◌, [], refl, sym, subst, inl, inr}
use Rattle.std.proofs.lemmas.Result.{on_ok_weaker}
use Rattle.driver.specs.declared.driver.Driver.{Driver}
use Rattle.driver.specs.Calls.{Does}
use Rattle.driver.specs.Calls.Call.{Connected}
use Rattle.bouncer_run.proofs.sockets.Sockets.serve_server.Goals as goal
use Rattle.bouncer_run.proofs.sockets.Sockets.serve_server.Goals.{then-is_ok+in_ok-connected, else-is_ok}

pub returns-in_default : goal.returns-in_default
returns-in_default c = record { first = c.args.driver.now; made = inl refl; pieces = []; mid = c.args.driver.now; taken = refl; gone = inl refl }

pub returns-in-Ended : goal.returns-in-Ended
returns-in-Ended c =
    let heard = c.in_ok-reading.ensures.heard in
    let made : (c.if-is_ok.driver ≡ c.args.driver.now) ⊎ Does (Connected c.args.now.now.ms) c.args.driver.now c.if-is_ok.driver =
    elim c.if-is_ok.branch [
      | then-is_ok+in_ok-connected w ↦ inr (subst (λ (d : Driver). Does (Connected c.args.now.now.ms) c.args.driver.now d) (sym w.driver-is)
          (record { stands = w.in_ok-connected.ensures.stands; link = w.in_ok-connected.ensures.link; rest = w.in_ok-connected.ensures.rest }))
      | else-is_ok w ↦ inl w.driver-is
    ]
    in
    on_ok_weaker c.drop_server.result
    (λ told. record { first = c.if-is_ok.driver; made = made; pieces = heard.pieces; mid = c.hear_server.new.driver; taken = heard.taken; gone = inr (c.in-Ended.why, told) })
    c.drop_server.ensures.told

pub returns-then-stays : goal.returns-then-stays
returns-then-stays c =
    let heard = c.in_ok-reading.ensures.heard in
    let made : (c.if-is_ok.driver ≡ c.args.driver.now) ⊎ Does (Connected c.args.now.now.ms) c.args.driver.now c.if-is_ok.driver =
    elim c.if-is_ok.branch [
      | then-is_ok+in_ok-connected w ↦ inr (subst (λ (d : Driver). Does (Connected c.args.now.now.ms) c.args.driver.now d) (sym w.driver-is)
          (record { stands = w.in_ok-connected.ensures.stands; link = w.in_ok-connected.ensures.link; rest = w.in_ok-connected.ensures.rest }))
      | else-is_ok w ↦ inl w.driver-is
    ]
    in
    record { first = c.if-is_ok.driver; made = made; pieces = heard.pieces; mid = c.hear_server.new.driver; taken = heard.taken; gone = inl refl }

pub returns : goal.returns
returns c =
    let heard = c.in_ok-reading.ensures.heard in
    let made : (c.if-is_ok.driver ≡ c.args.driver.now) ⊎ Does (Connected c.args.now.now.ms) c.args.driver.now c.if-is_ok.driver =
    elim c.if-is_ok.branch [
      | then-is_ok+in_ok-connected w ↦ inr (subst (λ (d : Driver). Does (Connected c.args.now.now.ms) c.args.driver.now d) (sym w.driver-is)
          (record { stands = w.in_ok-connected.ensures.stands; link = w.in_ok-connected.ensures.link; rest = w.in_ok-connected.ensures.rest }))
      | else-is_ok w ↦ inl w.driver-is
    ]
    in
    on_ok_weaker c.drop_server-2.result
    (λ told. record { first = c.if-is_ok.driver; made = made; pieces = heard.pieces; mid = c.hear_server.new.driver; taken = heard.taken; gone = inr (_, told) })
    c.drop_server-2.ensures.told
