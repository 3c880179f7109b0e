use Rattle.std.proofs.Common.{refl}
use Rattle.node_threads.proofs.Telling.{told_behind}
use Rattle.node_threads.proofs.worker_loop.WorkerLoop.tell_down.Goals as goal

pub returns-clause-told : goal.returns-clause-told
returns-clause-told g c =
    told_behind _ _ _ c.stand_down-now.result c.args.self.now c.args.self.now c.tell_now.new.self c.stand_down-now.ensures refl refl refl refl c.tell_now.ensures.told
