use Rattle.renewal.proofs.Outcomes.{on_ok_each}
use Rattle.renewal.proofs.noting.NotingMachine.apply.Goals as goal

pub returns-else-is_err-clause-stands : goal.returns-else-is_err-clause-stands
returns-else-is_err-clause-stands c = λ s below st.
    on_ok_each _ _ _ c.step-result.result (c.step-result.ensures.stands s below st.0) (c.step-result.ensures.joined s below st.0 st.1) c.if-self.false
