use Rattle.std.proofs.Common.{◌∙◌, Some, sym, ap, subst}
use Rattle.world_views.specs.Inputs.{NodeInput}
use Rattle.world_views.specs.Views.{carries}
use Rattle.node_cells.specs.Cells.{CellParts, HasHeard, view_in}
use Rattle.node_cells.proofs.cell.NodeCell.turn.Given as given
use Rattle.node_cells.proofs.cell.NodeCell.turn.Goals as goal

abbrev InputOf : given.Over → Type 0
InputOf g = NodeInput g.row.M-Command.Denot g.row.M-Line.Denot

abbrev PartsOf : given.Over → Type 0
PartsOf g = CellParts g.row.M-Setup.Denot g.row.M.Denot g.row.S.Denot g.row.M-Command.Denot g.row.M-Line.Denot g.row.M-Target.Denot g.row.M-Effect.Denot g.row.M-Played.Denot g.row.U.Denot

pub run-requires-clause-heard : goal.run-requires-clause-heard
run-requires-clause-heard g c =
    let parts = c.in_ok-make_room.ensures.0 in
    subst (λ (z : PartsOf g × InputOf g). HasHeard (view_in z.0) (carries z.1)) (λ d. (sym parts d, sym c.of-input.ensures.0 d)) c.requires.heard

pub run-requires-clause-copy : goal.run-requires-clause-copy
run-requires-clause-copy g c = λ on. c.in-Ok.ensures.copy on ∙ ap (λ (x : InputOf g). Some x) (sym c.of-input.ensures.1)
