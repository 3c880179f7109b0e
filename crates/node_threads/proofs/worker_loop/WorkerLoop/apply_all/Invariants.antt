use Rattle.raft_node.specs.Hosts.{hosted}
use Rattle.raft_node.specs.Machine.{Machine}
use Rattle.node_threads.specs.Homes.{IsSameHome}
use Rattle.node_threads.specs.Waiting.{HaveComeBack, account_of}
use Rattle.node_threads.specs.Work.{Does, applies}
use Rattle.node_threads.proofs.worker_loop.WorkerLoop.apply_all.Given as goal

abbrev pub machine : (g : goal.Over) → g.row.M-Setup.Denot → Machine
machine g s =
    hosted g.M.Hosted.blank g.M.Hosted.opened g.M.Hosted.shut g.M.Hosted.heard g.M.Hosted.claim g.M.Hosted.source (g.M.Machine.effects s)
    (g.M.Hosted.next_claim s) (g.M.Hosted.playback s) g.M.Hosted.class

abbrev pub invariant-loop-count : goal.invariant-loop-count
invariant-loop-count g l =
    let first = l.fn.cell.parts in
    IsSameHome first l.cell.parts × Does (machine g first.ether.setup) g.U.Upstream.tally (applies l.count) first l.cell.parts × HaveComeBack (account_of l.fn.self) (account_of l.self)
