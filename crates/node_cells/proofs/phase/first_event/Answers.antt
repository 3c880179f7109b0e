use Rattle.std.proofs.Common.{subst}
use Rattle.node_cells.specs.declared.phase.Phase.{Phase}
use Rattle.node_cells.specs.Cells.{HasCopies}
use Rattle.node_cells.proofs.phase.first_event.Goals as goal

pub returns-after-done-clause-kept : goal.returns-after-done-clause-kept
returns-after-done-clause-kept g c = λ r h. c.stopped.ensures.kept r (subst (λ (p : Phase g.row.B.Denot g.row.L.Denot g.row.T.Denot). HasCopies r p) c.in-DownInTurn.is h)
