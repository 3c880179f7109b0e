use Rattle.std.proofs.Common.{[], refl, inl, inr}
use Rattle.std.proofs.lemmas.Result.{on_ok_weaker}
use Rattle.bouncer_run.proofs.sockets.Sockets.serve.Goals as goal

pub returns-in_default : goal.returns-in_default
returns-in_default c = record { pieces = []; mid = c.args.driver.now; taken = refl; gone = inl refl }

pub returns-then-stays : goal.returns-then-stays
returns-then-stays c =
    let heard = c.in_ok-reading.ensures.heard in
    record { pieces = heard.pieces; mid = c.hear_client.new.driver; taken = heard.taken; gone = inl refl }

pub returns : goal.returns
returns c =
    let heard = c.in_ok-reading.ensures.heard in
    on_ok_weaker c.drop_client.result (λ lost. record { pieces = heard.pieces; mid = c.hear_client.new.driver; taken = heard.taken; gone = inr lost })
    c.drop_client.ensures.lost
