use Rattle.std.proofs.Common.{◌∙◌}
use Rattle.node_threads.proofs.Told.{leads_told}
use Rattle.node_threads.proofs.worker_loop.telling.leads.Goals as goal

pub returns : goal.returns
returns g c = c.leads.ensures ∙ leads_told g.M.Hosted.next_claim c.args.cell.now.parts c.status.result c.status.ensures
