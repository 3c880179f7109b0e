use Rattle.std.proofs.Common.{rules, ◌≡◌, true, false}
use Rattle.raft_node.specs.Hosts.{hosted}
use Rattle.raft_node.specs.Machine.{Machine}
use Rattle.node_threads.proofs.Going.{takes_none, takes_one}
use Rattle.node_threads.proofs.worker_loop.WorkerLoop.take_unless.Given as given
use Rattle.node_threads.proofs.worker_loop.WorkerLoop.take_unless.Goals as goal

abbrev machine : (g : given.Over) → g.row.M-Setup.Denot → Machine
machine g s =
    hosted g.M.Hosted.blank g.M.Hosted.opened g.M.Hosted.shut g.M.Hosted.heard g.M.Hosted.claim g.M.Hosted.source (g.M.Machine.effects s)
    (g.M.Hosted.next_claim s) (g.M.Hosted.playback s) g.M.Hosted.class

pub returns-then-not-is_left-clause-taken : goal.returns-then-not-is_left-clause-taken
returns-then-not-is_left-clause-taken g c =
    let first = c.args.cell.now.parts in
    let not : c.args.is_left ≡ false = search rules in
    λ within. takes_one (machine g first.ether.setup) g.U.Upstream.tally first c.take_from.new.cell.parts c.args.from c.args.is_left not (c.take_from.ensures.taken within)

pub returns-else-not-is_left-clause-taken : goal.returns-else-not-is_left-clause-taken
returns-else-not-is_left-clause-taken g c =
    let first = c.args.cell.now.parts in
    let is : c.args.is_left ≡ true = search rules in
    λ within. takes_none (machine g first.ether.setup) g.U.Upstream.tally first c.args.from c.args.is_left is
