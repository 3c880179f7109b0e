use Rattle.std.proofs.Common.{Bool, sym, ◌∙◌, ap, subst}
use Rattle.node_threads.specs.Taking.{HasDoneBehind}
use Rattle.node_threads.specs.Work.{HasDone}
use Rattle.node_threads.proofs.Home.{home_after_all}
use Rattle.node_threads.proofs.worker_loop.WorkerLoop.do_behind.Given as given
use Rattle.node_threads.proofs.worker_loop.WorkerLoop.do_behind.Goals as goal
use Rattle.raft_node.specs.Hosts.{hosted}
use Rattle.raft_node.specs.Machine.{Machine}

abbrev machine : (g : given.Over) → g.row.M-Setup.Denot → Machine
machine g s =
    hosted g.M.Hosted.blank g.M.Hosted.opened g.M.Hosted.shut g.M.Hosted.heard g.M.Hosted.claim g.M.Hosted.source (g.M.Machine.effects s)
    (g.M.Hosted.next_claim s) (g.M.Hosted.playback s) g.M.Hosted.class

pub returns-clause-done : goal.returns-clause-done
returns-clause-done g c =
    let first = c.args.cell.now.parts in
    let between = c.turn_gathered.new.cell.parts in
    let new = c.do_job-2.new.cell.parts in
    let M = machine g first.ether.setup in
    let tally = g.U.Upstream.tally in
    let before = c.args.gathered.now.items in
    let after = c.turn_gathered.new.gathered.items in
    let home = home_after_all M before first between c.turn_gathered.ensures.turned in
    let done = subst (λ (s : g.row.M-Setup.Denot). HasDone (machine g s) tally g.M.Marking.marked g.M.Hosted.mark c.args.job between new) (ap (λ e. e.setup) home.ether) c.do_job-2.ensures.done in
    subst (λ (idle : Bool). HasDoneBehind M tally g.M.Marking.marked g.M.Hosted.mark idle c.args.job before first after new) (sym c.if-is_idle.false ∙ c.is_idle.ensures)
    (c.turn_gathered.ensures.none, between, c.turn_gathered.ensures.turned, done)
