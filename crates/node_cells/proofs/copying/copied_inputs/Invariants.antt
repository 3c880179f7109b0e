use Rattle.std.proofs.Common.{◌≡◌, ◌++◌, drop}
use Rattle.node_cells.proofs.copying.copied_inputs.Given as goal

abbrev pub invariant-loop-input : goal.invariant-loop-input
invariant-loop-input g l = l.copies.items ++ drop l.input-index l.inputs ≡ l.inputs
