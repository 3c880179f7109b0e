use Rattle.std.proofs.Common.{ℕ, true}
use Rattle.raft_node.specs.Hosts.{hosted}
use Rattle.raft_node.specs.Machine.{Machine}
use Rattle.node_threads.specs.Homes.{IsSameHome}
use Rattle.node_threads.specs.Served.{HasDoneRounds}
use Rattle.node_threads.specs.Waiting.{account_of}
use Rattle.node_threads.proofs.worker_loop.WorkerLoop.work.Given as goal

abbrev pub machine : (g : goal.Over) → g.row.M-Setup.Denot → Machine
machine g s =
    hosted g.M.Hosted.blank g.M.Hosted.opened g.M.Hosted.shut g.M.Hosted.heard g.M.Hosted.claim g.M.Hosted.source (g.M.Machine.effects s)
    (g.M.Hosted.next_claim s) (g.M.Hosted.playback s) g.M.Hosted.class

abbrev pub invariant-loop : goal.invariant-loop
invariant-loop g l =
    let first = l.fn.cell.parts in
    record {
      home : IsSameHome first l.cell.parts;
      count : ℕ;
      rounds : HasDoneRounds (machine g first.ether.setup) g.U.Upstream.tally g.M.Marking.marked g.M.Hosted.mark g.I.Inflow.gives count l.fn.self.may_wait l.fn.inbox (account_of l.fn.self) first true
          l.self.may_wait l.inbox (account_of l.self) l.cell.parts;
    }
