use Rattle.raft_node.specs.Parts.{keeper}
use Rattle.node_threads.proofs.Waited.{worked_late}
use Rattle.node_threads.proofs.worker_loop.WorkerLoop.work_late.Goals as goal

pub returns-in-Open : goal.returns-in-Open
returns-in-Open g c =
    worked_late (keeper g.S.Stable.saved g.S.Stable.may_stand g.S.Stable.condition) g.L.Opener.gives c.args.cell c.args.opener c.in-Open.cell c.work_open.result c.in-Open.ensures c.work_open.ensures
