use Rattle.node_threads.proofs.Going.{note_as, timed_as}
use Rattle.node_threads.proofs.worker_loop.WorkerLoop.follow.Goals as goal

pub returns-in-Timeout-clause-done : goal.returns-in-Timeout-clause-done
returns-in-Timeout-clause-done g c = note_as _ _ c.args.note _ c.args.cell.now.parts c.time_out.new.cell.parts c.in-Timeout.is (_, c.time_out.ensures.turned)

pub returns-in-Timeout-clause-timeout : goal.returns-in-Timeout-clause-timeout
returns-in-Timeout-clause-timeout g c =
    timed_as _ _ c.time_out.new.self.contacts c.args.note _ c.args.cell.now.parts c.time_out.new.cell.parts c.in-Timeout.is c.time_out.ensures.turned

pub returns-in-Restart-clause-done : goal.returns-in-Restart-clause-done
returns-in-Restart-clause-done g c = note_as _ _ c.args.note _ c.args.cell.now.parts c.restart.new.self.parts c.in-Restart.is (c.restart.result, c.restart.ensures.restart)
