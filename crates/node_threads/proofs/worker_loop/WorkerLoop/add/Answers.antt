use Rattle.std.proofs.Common.{rules, ◌≡◌, inr, ap, subst}
use Rattle.node_threads.specs.Together.{HasTurnedAll}
use Rattle.node_threads.specs.Work.{HasHadTurn}
use Rattle.node_threads.proofs.Home.{home_after_all}
use Rattle.node_threads.proofs.worker_loop.WorkerLoop.add.Given as given
use Rattle.node_threads.proofs.worker_loop.WorkerLoop.add.Goals as goal
use Rattle.raft_node.specs.Hosts.{hosted}
use Rattle.raft_node.specs.Machine.{Machine}

abbrev machine : (g : given.Over) → g.row.M-Setup.Denot → Machine
machine g s =
    hosted g.M.Hosted.blank g.M.Hosted.opened g.M.Hosted.shut g.M.Hosted.heard g.M.Hosted.claim g.M.Hosted.source (g.M.Machine.effects s)
    (g.M.Hosted.next_claim s) (g.M.Hosted.playback s) g.M.Hosted.class

pub returns-in-Err-clause-added : goal.returns-in-Err-clause-added
returns-in-Err-clause-added g c =
    let first = c.args.cell.now.parts in
    let between = c.turn_gathered.new.cell.parts in
    let new = c.turn.new.cell.parts in
    let M = machine g first.ether.setup in
    let before = c.args.gathered.now.items in
    let same : c.push.new.self.items ≡ before = search rules in
    let all = subst (λ l. HasTurnedAll M l first between) same c.turn_gathered.ensures.turned in
    let home = home_after_all M before first between all in
    let turned = subst (λ (s : g.row.M-Setup.Denot). HasHadTurn (machine g s) g.U.Upstream.tally between c.in-Err.failed.value new) (ap (λ e. e.setup) home.ether) c.turn.ensures.turn in
    inr (c.turn_gathered.ensures.none, between, all, subst (λ x. HasHadTurn M g.U.Upstream.tally between x new) c.in-Err.ensures.value_returned turned)
