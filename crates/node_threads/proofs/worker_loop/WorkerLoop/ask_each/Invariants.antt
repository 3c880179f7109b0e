use Rattle.std.proofs.Common.{◌≡◌, ◌+◌, ℕ, Bool}
use Rattle.raft_node.specs.Hosts.{hosted}
use Rattle.raft_node.specs.Machine.{Machine}
use Rattle.node_cells.specs.Turns.{CellOf}
use Rattle.node_threads.specs.Homes.{IsSameHome}
use Rattle.node_threads.specs.Waiting.{Account, account_of}
use Rattle.node_threads.specs.Work.{HasAskedEach, HasAskedUpTo, ask_limit}
use Rattle.node_threads.proofs.worker_loop.WorkerLoop.ask_each.Given as goal

abbrev pub machine : (g : goal.Over) → g.row.M-Setup.Denot → Machine
machine g s =
    hosted g.M.Hosted.blank g.M.Hosted.opened g.M.Hosted.shut g.M.Hosted.heard g.M.Hosted.claim g.M.Hosted.source (g.M.Machine.effects s)
    (g.M.Hosted.next_claim s) (g.M.Hosted.playback s) g.M.Hosted.class

abbrev pub invariant-loop : goal.invariant-loop
invariant-loop g l =
    let first = l.fn.cell.parts in
    let M = machine g first.ether.setup in
    IsSameHome first l.cell.parts
    × ((n : ℕ) → n + l.counter ≡ ask_limit → (over : Bool) (b : Account _) (e : CellOf M _ _ _ _) → HasAskedUpTo M g.U.Upstream.tally n (account_of l.self) l.cell.parts over b e
    → HasAskedEach M g.U.Upstream.tally (account_of l.fn.self) first over b e)
