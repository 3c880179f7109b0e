use Rattle.std.proofs.Common.{ap}
use Rattle.client_gate.proofs.Standing.{heard_stands, refused_stands}
use Rattle.client_gate.proofs.gate.ClientGate.on_effect.Goals as goal

pub returns-in-Ok-clause-stands : goal.returns-in-Ok-clause-stands
returns-in-Ok-clause-stands c = λ s calls st. heard_stands s calls _ _ _ st c.in-Ok.ensures.gate

pub returns-in-Err-clause-stands : goal.returns-in-Err-clause-stands
returns-in-Err-clause-stands c =
    λ s calls st. refused_stands s calls _ _ _ st (record { settings = ap (λ h. h.settings) c.in-Err.ensures.err; gate = ap (λ h. h.gate) c.in-Err.ensures.err }) c.shut.ensures
