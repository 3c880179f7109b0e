use Rattle.std.proofs.Common.{◌≡◌, ◌++◌, map}
use Rattle.node_cells.specs.Inputs.{input_of}
use Rattle.node_cells.proofs.copying.inputs_of.Given as goal

abbrev pub invariant-loop-input : goal.invariant-loop-input
invariant-loop-input g l =
    (l.taken.items ++ map input_of l.input-iterator.rest.items ≡ map input_of l.fn.inputs.items)
    × (l.all_told.items ++ l.input-iterator.rest.items ≡ l.fn.inputs.items)
