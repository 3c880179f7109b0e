use Rattle.std.proofs.Common.{refl, inr}
use Rattle.node_threads.proofs.Telling.{told_now}
use Rattle.node_threads.proofs.worker_loop.WorkerLoop.tell_now.Goals as goal

pub returns-in-Ok-clause-told : goal.returns-in-Ok-clause-told
returns-in-Ok-clause-told g c =
    inr
    (told_now _ _ c.args.now c.report-report.result c.args.self.now c.report-report.new.self _ c.report-report.ensures.only c.report-report.ensures.report c.in-Ok.ensures.taken refl refl
    c.go_on.ensures.leaving c.go_on.ensures.fault)
