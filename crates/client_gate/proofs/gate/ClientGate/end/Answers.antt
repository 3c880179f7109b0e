use Rattle.std.proofs.Common.{◌∙◌, ap}
use Rattle.client_gate.specs.Gates.{last_request}
use Rattle.client_gate.proofs.Standing.{ended_stands}
use Rattle.client_gate.proofs.gate.ClientGate.end.Goals as goal

pub returns-clause-stands : goal.returns-clause-stands
returns-clause-stands c = λ s calls st. ended_stands s calls _ _ st c.hang_up.ensures.gate

pub returns-clause-answer : goal.returns-clause-answer
returns-clause-answer c = λ s calls st. c.hang_up.ensures.answer ∙ ap last_request st.led
