use Rattle.session_fence.specs.Sessions.{plain, answers}
use Rattle.session_fence.proofs.Kept.{given-kept, kept-next, ok_both}
use Rattle.session_fence.proofs.fence.FenceMachine.apply.Goals as goal

pub returns-else-is_err-clause-stands : goal.returns-else-is_err-clause-stands
unfolding plain
returns-else-is_err-clause-stands g c = λ s earlier h.
    let e = given-kept g.M.HasLines.up g.M.HasLines.down g.M.HasLines.heard c.args.self.now.session earlier c.args.command.now h.1 in
    let k = kept-next c.args.self.now.session earlier c.args.place c.args.command.now h.1 in
    ok_both c.step-result.result _ _ _ (λ st se. (rw e at st, rw se k, h.2)) (c.step-result.ensures.stands s _ h.0) c.step-result.ensures.session

pub returns-else-is_err-clause-effects : goal.returns-else-is_err-clause-effects
unfolding answers
returns-else-is_err-clause-effects g c = λ s earlier h.
    let e = given-kept g.M.HasLines.up g.M.HasLines.down g.M.HasLines.heard c.args.self.now.session earlier c.args.command.now h.1 in
    rw e at (c.step-result.ensures.effects s _ h.0)
