use Rattle.world_run.proofs.Owned.{stopped_before, stopped_after}
use Rattle.world_run.proofs.cell.Cell.stop.Goals as goal

pub returns-then-after : goal.returns-then-after
returns-then-after g c = rw c.if-after.true (stopped_after _ _ c.args.self.now c.act_unsent.new.self c.restart.new.self c.in_ok-act_unsent.ensures c.in_ok-restart.ensures)

pub returns : goal.returns
returns g c = rw c.if-after.false (stopped_before _ _ c.args.self.now c.restart-2.new.self c.in_ok-restart-2.ensures)
