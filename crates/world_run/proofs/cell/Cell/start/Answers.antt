use Rattle.std.proofs.Common.{ap, ◌∙◌}
use Rattle.raft_log.specs.Seen.{seen}
use Rattle.world_run.proofs.Begun.{first_runs}
use Rattle.world_run.proofs.cell.Cell.start.Goals as goal

pub returns-in-Ok-clause-runs : goal.returns-in-Ok-clause-runs
returns-in-Ok-clause-runs g c =
    ap (λ sent. seen c.in-Ok.node.state sent) c.new-in-Ok.ensures.items ∙ first_runs _ _ c.in-Ok.node.state c.new.ensures c.in-Ok.ensures.begins
