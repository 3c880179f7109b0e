use Rattle.node_threads.proofs.Told.{status_told}
use Rattle.node_threads.proofs.worker_loop.telling.status.Goals as goal

pub returns : goal.returns
returns g c =
    status_told g.M.Hosted.next_claim c.args.cell.now.parts c.of.result c.state.result.now c.next_claim.result c.down.result c.of.ensures c.state.ensures.state c.down.ensures.up c.down.ensures.cause c.next_claim.ensures
