use Rattle.std.proofs.Common.{◌∙◌}
use Rattle.upstream_claim.proofs.Waiting.{answers-step, lines-step}
use Rattle.upstream_claim.proofs.step.answer_all.Goals as goal

pub loop-effect-preserved : goal.loop-effect-preserved
loop-effect-preserved g c =
    let i = c.loop-effect.invariant in
    let e = c.in-Some.ensures.steps in
    let a = c.in_ok-answer_one.ensures in
    record {
      answers = rw (a.answers, a.lines) (answers-step g.M.HasSession.sends c.loop-effect.answers.items c.loop-effect.unclaimed.lines.items c.in-Some.effect _ _ (rw e.0 at i.answers));
      lines = rw a.lines (lines-step g.M.HasSession.sends c.loop-effect.unclaimed.lines.items c.in-Some.effect _ _ (rw e.0 at i.lines));
      count = a.count ∙ i.count;
    }
