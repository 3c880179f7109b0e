use denote.Exit.{no}
use denote.Param.{param}
use denote.Param.Send.{arg_send, param_send}
use Rattle.std.proofs.Common.{ap, ◌∙◌}
use Rattle.std.proofs.lemmas.Option.{IfSome_then}
use Rattle.node_threads.proofs.Crossing.{place_send, worker_send}
use Rattle.node_threads.proofs.cluster.Cluster.spawn_worker.Goals as goal

pub spawn_task-requires-send-T : goal.spawn_task-requires-send-T
spawn_task-requires-send-T g c κs within =
    let b = c.type_bounds in
    param_send _ _ (arg_send _ no _
    (worker_send (param 0 g.row.M) (param 1 g.row.S) (param 2 g.row.U) (param 3 g.row.L) (param 4 g.row.M-Action) (param 5 g.row.M-Line) (param 6 g.row.M-Target) (param 7 g.row.M-Played) (param 8 g.row.M-Setup) (param 9 g.row.M-Command) (param 10 g.row.M-Effect) g.M.Marking g.M.Hosted g.M.Machine g.M.Setup.Copied g.M.Command.Wire g.M.Command.Copied g.M.Effect.Copied g.M.Action.Wire g.M.Action.Copied g.M.Line.Wire g.M.Line.Copied g.M.Target.Wire g.M.Target.Copied g.M.Played.Copied g.S.Stable g.U.Upstream (param 12 g.row.G) (param 13 g.row.O)
    b.send-M b.send-S b.send-U b.send-L b.send-G b.send-O b.send-M-Line b.send-M-Target b.send-M-Played b.send-M-Setup b.send-M-Command b.send-M-Effect b.sync-G b.sync-M-Setup b.sync-M-Command))

pub spawn_task-requires-send-T-Left : goal.spawn_task-requires-send-T-Left
spawn_task-requires-send-T-Left g c κs within =
    let b = c.type_bounds in
    param_send _ _ (arg_send _ no _
    (place_send (param 0 g.row.M) (param 1 g.row.S) (param 2 g.row.U) (param 3 g.row.L) (param 4 g.row.M-Action) (param 5 g.row.M-Line) (param 6 g.row.M-Target) (param 7 g.row.M-Played) (param 8 g.row.M-Setup) (param 9 g.row.M-Command) (param 10 g.row.M-Effect) g.M.Marking g.M.Hosted g.M.Machine g.M.Setup.Copied g.M.Command.Wire g.M.Command.Copied g.M.Effect.Copied g.M.Action.Wire g.M.Action.Copied g.M.Line.Wire g.M.Line.Copied g.M.Target.Wire g.M.Target.Copied g.M.Played.Copied g.S.Stable g.U.Upstream
    b.send-M b.send-S b.send-U b.send-L b.send-M-Line b.send-M-Target b.send-M-Played b.send-M-Setup b.send-M-Command b.send-M-Effect b.sync-M-Setup b.sync-M-Command))

pub returns : goal.returns
returns g c = IfSome_then c.spawn_task.result c.spawn_task.ensures (λ t h. ap (λ p. p.place.value) h ∙ c.of.ensures)
