use Rattle.std.proofs.Common.{sym, ap, ◌∙◌}
use Rattle.world_run.proofs.Begun.{runs_anew}
use Rattle.world_run.proofs.cell.Cell.restart.Goals as goal

pub returns : goal.returns
returns g c =
    rw (sym c.self.view_is) (runs_anew _ _ _ _ (sym c.is_err.ensures.value ∙ c.if-is_err.false) (ap (λ v. v.node.down) c.self.view_is ∙ c.requires) c.is_whole.ensures.holds c.restart.ensures)
