use Rattle.std.proofs.lemmas.Grind.{common_steps}
use Rattle.std.proofs.Common.{rules, ◌≡◌, ◌≢◌, ◌+◌, ◌<◌, ◌≤◌, ◌∙◌, sym, arith}
use Rattle.request_once.specs.Fresh.{last}
use Rattle.request_once.proofs.Requests.{last-skip, plain-next, plain-skip, answers-next, answers-repeat, answers-gap, numbers-next}
use Rattle.request_once.proofs.step.ask.Goals as goal

pub returns-then-number-was-clause-stands : goal.returns-then-number-was-clause-stands
returns-then-number-was-clause-stands g c = λ s earlier st h.
    let was : c.last_of-was.result ≡ last earlier c.args.origin = c.last_of-was.ensures ∙ h _ in
    let ne : c.args.number ≢ last earlier c.args.origin + 1 = omega arith in
    (rw (plain-skip _ _ _ _ _ _ _ ne) st, λ o. h o ∙ sym (last-skip earlier _ _ _ _ _ o ne))

pub returns-then-number-was-clause-effects : goal.returns-then-number-was-clause-effects
returns-then-number-was-clause-effects g c = λ s earlier st h.
    let was : c.last_of-was.result ≡ last earlier c.args.origin = c.last_of-was.ensures ∙ h _ in
    let le : c.args.number ≤ last earlier c.args.origin = omega arith in
    rw (answers-repeat _ _ _ _ _ _ _ _ le, ← was) c.in_ok-single.ensures

pub returns-then-number-was-gt1-clause-stands : goal.returns-then-number-was-gt1-clause-stands
returns-then-number-was-gt1-clause-stands g c = λ s earlier st h.
    let was : c.last_of-was.result ≡ last earlier c.args.origin = c.last_of-was.ensures ∙ h _ in
    let ne : c.args.number ≢ last earlier c.args.origin + 1 = omega arith in
    (rw (plain-skip _ _ _ _ _ _ _ ne) st, λ o. h o ∙ sym (last-skip earlier _ _ _ _ _ o ne))

pub returns-then-number-was-gt1-clause-effects : goal.returns-then-number-was-gt1-clause-effects
returns-then-number-was-gt1-clause-effects g c = λ s earlier st h.
    let was : c.last_of-was.result ≡ last earlier c.args.origin = c.last_of-was.ensures ∙ h _ in
    let lt : last earlier c.args.origin + 1 < c.args.number = omega arith in
    rw (answers-gap _ _ _ _ _ _ _ _ lt, ← was) c.in_ok-single-2.ensures

pub returns-clause-stands : goal.returns-clause-stands
returns-clause-stands g c = λ s earlier st h.
    let was : c.last_of-was.result ≡ last earlier c.args.origin = c.last_of-was.ensures ∙ h _ in
    let eq : c.args.number ≡ last earlier c.args.origin + 1 = omega arith in (
      rw (plain-next _ _ _ _ _ _ _ eq, ← c.in_ok-command.ensures) (c.in_ok-effects.ensures.stands s _ st),
      numbers-next _ _ earlier _ _ _ _ _ h eq (rw c.value-number.ensures.value at c.in_ok-note.ensures),
    )

pub returns-clause-effects : goal.returns-clause-effects
returns-clause-effects g c = λ s earlier st h.
    let was : c.last_of-was.result ≡ last earlier c.args.origin = c.last_of-was.ensures ∙ h _ in
    let eq : c.args.number ≡ last earlier c.args.origin + 1 = omega arith in
    let below = c.in_ok-effects.ensures.effects s _ st in
    rw (answers-next _ _ _ _ _ _ _ _ eq, ← c.in_ok-command.ensures, ← below, ← c.in_ok-answers.ensures, ← c.value-number.ensures.value) (search (rules, common_steps))
