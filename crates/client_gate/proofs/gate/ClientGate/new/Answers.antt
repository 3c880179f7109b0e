use Rattle.std.proofs.Common.{ap}
use Rattle.client_gate.specs.Calls.{gate}
use Rattle.client_gate.specs.Made.{made}
use Rattle.client_gate.proofs.Standing.{fresh_is}
use Rattle.client_gate.proofs.gate.ClientGate.new.Goals as goal

pub returns : goal.returns
unfolding gate
returns c =
    record {
      made = ap (λ p. made c.args.origin p c.args.nick) c.new.ensures;
      led = fresh_is c.in_ok-with_capacity.field-0.items (ap (λ b. b.items) c.in_ok-with_capacity.ensures);
      split = λ h. c.new-2.ensures;
    }
