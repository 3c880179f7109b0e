use Rattle.std.proofs.Common.{◌≡◌, ◌++◌}
use Rattle.client_gate.proofs.waiting.copies.Given as goal

abbrev pub invariant-loop-request : goal.invariant-loop-request
invariant-loop-request l = l.all.items ++ l.request-iterator ≡ l.waiting.items
