use Rattle.std.proofs.Common.{map, ap, ◌∙◌, sym}
use Rattle.request_once.specs.declared.answer.Answer.TheVariants.{Effect}
use Rattle.request_once.proofs.Requests.{last-inner, last-blank, last-mark, plain-inner, plain-blank, plain-mark, answers-inner, answers-blank, answers-mark}
use Rattle.request_once.proofs.step.step.Goals as goal

pub returns-in_ok-passed_on-in-Inner-clause-stands :
    goal.returns-in_ok-passed_on-in-Inner-clause-stands
returns-in_ok-passed_on-in-Inner-clause-stands g c = λ s earlier st h.
    rw c.in-Inner.is (rw plain-inner (c.in_ok-effects-in-Inner.ensures.stands s _ st), λ o. h o ∙ sym (last-inner earlier _ _ o))

pub returns-in_ok-passed_on-in-Inner-clause-effects :
    goal.returns-in_ok-passed_on-in-Inner-clause-effects
returns-in_ok-passed_on-in-Inner-clause-effects g c = λ s earlier st h.
    rw (c.in-Inner.is, answers-inner) (c.in_ok-passed_on-in-Inner.ensures ∙ ap (λ es. map Effect es) (c.in_ok-effects-in-Inner.ensures.effects s _ st))

pub returns-in-Blank-clause-stands : goal.returns-in-Blank-clause-stands
returns-in-Blank-clause-stands g c = λ s earlier st h.
    rw c.in-Blank.is (rw plain-blank st, λ o. h o ∙ sym (last-blank earlier _ o))

pub returns-in-Blank-clause-effects : goal.returns-in-Blank-clause-effects
returns-in-Blank-clause-effects g c = λ s earlier st h.
    rw (c.in-Blank.is, answers-blank) c.new.ensures.items

pub returns-in_ok-single-in-Mark-clause-stands : goal.returns-in_ok-single-in-Mark-clause-stands
returns-in_ok-single-in-Mark-clause-stands g c = λ s earlier st h.
    rw c.in-Mark.is (rw plain-mark st, λ o. h o ∙ sym (last-mark earlier _ _ o))

pub returns-in_ok-single-in-Mark-clause-effects : goal.returns-in_ok-single-in-Mark-clause-effects
returns-in_ok-single-in-Mark-clause-effects g c = λ s earlier st h.
    rw (c.in-Mark.is, answers-mark) c.in_ok-single-in-Mark.ensures
