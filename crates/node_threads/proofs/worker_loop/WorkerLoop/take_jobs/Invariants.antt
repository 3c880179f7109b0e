use Rattle.raft_node.specs.Hosts.{hosted}
use Rattle.raft_node.specs.Machine.{Machine}
use Rattle.node_threads.specs.Together.{AreReady}
use Rattle.node_threads.specs.Waiting.{account_of}
use Rattle.node_threads.proofs.GivenDone.{IsTaking}
use Rattle.node_threads.proofs.worker_loop.WorkerLoop.take_jobs.Given as goal

abbrev pub machine : (g : goal.Over) → g.row.M-Setup.Denot → Machine
machine g s =
    hosted g.M.Hosted.blank g.M.Hosted.opened g.M.Hosted.shut g.M.Hosted.heard g.M.Hosted.claim g.M.Hosted.source (g.M.Machine.effects s)
    (g.M.Hosted.next_claim s) (g.M.Hosted.playback s) g.M.Hosted.class

abbrev pub invariant-loop-place : goal.invariant-loop-place
invariant-loop-place g l =
    let first = l.fn.cell.parts in
    record {
      taking : IsTaking (machine g first.ether.setup) g.U.Upstream.tally g.M.Marking.marked g.M.Hosted.mark g.I.Inflow.gives l.fn.may_wait l.place l.gathered.items l.fn.inbox
          (account_of l.fn.self) first l.inbox (account_of l.self) l.cell.parts;
      ready : AreReady l.gathered.items l.cell.parts;
    }
