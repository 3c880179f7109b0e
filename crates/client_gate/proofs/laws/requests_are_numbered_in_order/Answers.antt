use Rattle.client_gate.proofs.NumberLemmas.{all_are_numbered}
use Rattle.client_gate.proofs.laws.requests_are_numbered_in_order.Goals as goal

pub returns : goal.returns
returns c = all_are_numbered
