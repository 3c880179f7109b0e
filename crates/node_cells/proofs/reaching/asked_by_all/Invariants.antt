use Rattle.std.proofs.Common.{◌≡◌, drop}
use Rattle.node_cells.specs.Marks.{asked_by_all}
use Rattle.node_cells.proofs.reaching.asked_by_all.Given as goal

abbrev pub invariant-loop-input : goal.invariant-loop-input
invariant-loop-input g l =
    asked_by_all g.M.Marking.marked l.most (drop l.input-index l.inputs) ≡ asked_by_all g.M.Marking.marked l.fn.most l.inputs
