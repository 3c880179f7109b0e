use Rattle.raft_node.specs.Parts.{keeper}
use Rattle.node_threads.proofs.Started.{has_started}
use Rattle.node_threads.proofs.cluster.starting.Cluster+M+S+U.start.Goals as goal

pub returns : goal.returns
returns g c =
    has_started (keeper g.S.Stable.saved g.S.Stable.may_stand g.S.Stable.condition) c.args.parts.items c.args.size c.args.setup.now c.args.recording c.in_ok-parts.parts.items
    c.start_late.result c.in_ok-parts.ensures.all c.start_late.ensures
