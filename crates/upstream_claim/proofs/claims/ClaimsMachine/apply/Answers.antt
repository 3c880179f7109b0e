use Rattle.upstream_claim.specs.Numbered.{plain, numbered, answers}
use Rattle.upstream_claim.proofs.Waiting.{ok_both}
use Rattle.upstream_claim.proofs.claims.ClaimsMachine.apply.Goals as goal

pub returns-else-is_err-clause-stands : goal.returns-else-is_err-clause-stands
unfolding plain numbered
returns-else-is_err-clause-stands g c = λ s earlier h.
    ok_both c.step-result.result _ _ _ (λ st k. (st, k, h.2)) (c.step-result.ensures.stands s _ h.0) (c.step-result.ensures.kept s _ _ h.0 h.1)

pub returns-else-is_err-clause-effects : goal.returns-else-is_err-clause-effects
unfolding answers
returns-else-is_err-clause-effects g c = λ s earlier h. c.step-result.ensures.effects s _ _ h.0 h.1
