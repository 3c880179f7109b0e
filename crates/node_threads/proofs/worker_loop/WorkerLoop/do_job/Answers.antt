use Rattle.node_threads.proofs.Going.{done_as}
use Rattle.node_threads.proofs.worker_loop.WorkerLoop.do_job.Goals as goal

pub returns-in-Look-clause-done : goal.returns-in-Look-clause-done
returns-in-Look-clause-done g c = done_as _ _ _ _ c.args.job _ c.args.cell.now.parts c.look.new.self.parts c.in-Look.is (c.look.result, c.look.ensures.look)

pub returns-in-Restart-clause-done : goal.returns-in-Restart-clause-done
returns-in-Restart-clause-done g c = done_as _ _ _ _ c.args.job _ c.args.cell.now.parts c.restart.new.self.parts c.in-Restart.is (c.restart.result, c.restart.ensures.restart)

pub returns-in-Mark-clause-done : goal.returns-in-Mark-clause-done
returns-in-Mark-clause-done g c = done_as _ _ _ _ c.args.job _ c.args.cell.now.parts c.mark.new.cell.parts c.in-Mark.is (c.mark.ensures.mark.answer, c.mark.ensures.mark.asked)

pub returns-in-LookAfter-clause-done : goal.returns-in-LookAfter-clause-done
returns-in-LookAfter-clause-done g c =
    done_as _ _ _ _ c.args.job _ c.args.cell.now.parts c.look_after.new.self.parts c.in-LookAfter.is (c.look_after.result, c.look_after.ensures.look)
