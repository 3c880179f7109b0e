use Rattle.raft_node.specs.Hosts.{hosted}
use Rattle.raft_node.specs.Machine.{Machine}
use Rattle.node_threads.specs.Waiting.{HaveComeBack, account_of}
use Rattle.node_threads.specs.Work.{Does, takes_but}
use Rattle.node_threads.proofs.worker_loop.WorkerLoop.take_all.Given as goal

abbrev pub machine : (g : goal.Over) → g.row.M-Setup.Denot → Machine
machine g s =
    hosted g.M.Hosted.blank g.M.Hosted.opened g.M.Hosted.shut g.M.Hosted.heard g.M.Hosted.claim g.M.Hosted.source (g.M.Machine.effects s)
    (g.M.Hosted.next_claim s) (g.M.Hosted.playback s) g.M.Hosted.class

abbrev pub invariant-loop-from : goal.invariant-loop-from
invariant-loop-from g l =
    record {
      taken : Does (machine g l.fn.cell.parts.ether.setup) g.U.Upstream.tally (takes_but l.fn.left l.from) l.fn.cell.parts l.cell.parts;
      requests : HaveComeBack (account_of l.fn.self) (account_of l.self);
    }
