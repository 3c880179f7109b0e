use Rattle.std.proofs.lemmas.Result.{IfOk-weaker, IfErr-weaker}
use Rattle.std.proofs.Common.{[]}
use Rattle.fold_app.proofs.Carrying.{stands_at_first}
use Rattle.fold_app.proofs.folds.fold_input.Goals as goal

pub returns-clause-ok : goal.returns-clause-ok
returns-clause-ok g c = λ s b.
    let fed = c.in_ok-feed.ensures.fed.carries c.args.machine.now [] (stands_at_first g.M.Machine.stands g.M.Machine.effects c.args.machine.now c.new-folding.result c.new-folding.ensures.fault c.new-folding.ensures.place c.new-folding.ensures.begun c.new-folding.ensures.output) in
    IfOk-weaker c.finish.result _ _ (λ text h. h.gives c.args.machine.now c.args.input.now fed s b) c.finish.ensures.ok

pub returns-clause-err : goal.returns-clause-err
returns-clause-err g c = λ s.
    let fed = c.in_ok-feed.ensures.fed.carries c.args.machine.now [] (stands_at_first g.M.Machine.stands g.M.Machine.effects c.args.machine.now c.new-folding.result c.new-folding.ensures.fault c.new-folding.ensures.place c.new-folding.ensures.begun c.new-folding.ensures.output) in
    IfErr-weaker c.finish.result _ _ (λ e h other. (h.gives c.args.machine.now c.args.input.now fed).1 other (g.M.Machine.effects s)) c.finish.ensures.err

pub returns-clause-fault : goal.returns-clause-fault
returns-clause-fault g c =
    let fed = c.in_ok-feed.ensures.fed.carries c.args.machine.now [] (stands_at_first g.M.Machine.stands g.M.Machine.effects c.args.machine.now c.new-folding.result c.new-folding.ensures.fault c.new-folding.ensures.place c.new-folding.ensures.begun c.new-folding.ensures.output) in
    IfErr-weaker c.finish.result _ _ (λ e h. (h.gives c.args.machine.now c.args.input.now fed).0) c.finish.ensures.err
