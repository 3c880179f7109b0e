use Rattle.std.proofs.Common.{◌∙◌}
use Rattle.std.proofs.lemmas.Result.{IfOk-weaker}
use Rattle.bouncer_tower.specs.Bodies.{accepted, plain, unclaimed}
use Rattle.journal_folder.proofs.naming.copied_names.Goals as goal

pub returns : goal.returns
unfolding accepted unclaimed plain
returns c = λ s history st.
    let is = c.ids.ensures s _ (c.machine-buffers.ensures s _ (c.machine-2.ensures s _ (c.machine.ensures s history st))) in
    IfOk-weaker c.copied_all.result _ _ (λ v h. h ∙ is) c.copied_all.ensures
