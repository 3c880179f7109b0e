use Rattle.std.proofs.Common.{sym, ◌∙◌}
use Rattle.client_gate.proofs.Standing.{closed_answer, closed_stands, refused_stands, takes_answer, takes_stands}
use Rattle.client_gate.proofs.gate.ClientGate.feed.Goals as goal

pub returns-then-is_closed-clause-stands : goal.returns-then-is_closed-clause-stands
returns-then-is_closed-clause-stands c = λ s calls st. closed_stands s calls _ _ (sym c.is_closed.ensures ∙ c.if-is_closed.true) st

pub returns-then-is_closed-clause-answer : goal.returns-then-is_closed-clause-answer
returns-then-is_closed-clause-answer c =
    λ s calls st. c.nothing.ensures ∙ closed_answer s calls _ _ (sym c.is_closed.ensures ∙ c.if-is_closed.true) st

pub returns-in-Ok-clause-stands : goal.returns-in-Ok-clause-stands
returns-in-Ok-clause-stands c =
    λ s calls st. takes_stands s calls _ _ _ _ (sym c.is_closed.ensures ∙ c.if-is_closed.false) st c.in-Ok.ensures.taken

pub returns-in-Ok-clause-answer : goal.returns-in-Ok-clause-answer
returns-in-Ok-clause-answer c =
    λ s calls st. takes_answer s calls _ _ _ _ (sym c.is_closed.ensures ∙ c.if-is_closed.false) st c.in-Ok.ensures.taken

pub returns-in-Err-clause-stands : goal.returns-in-Err-clause-stands
returns-in-Err-clause-stands c = λ s calls st. refused_stands s calls _ _ _ st c.in-Err.ensures.err c.shut.ensures
