use Rattle.std.proofs.Common.{[], sym, ap, subst}
use Rattle.raft_node.specs.Hosts.{hosted}
use Rattle.node_threads.specs.Taking.{gathered_piece}
use Rattle.node_threads.specs.Together.{HasTurnedAll}
use Rattle.raft_node.specs.Machine.{Machine}
use Rattle.node_threads.specs.Taking.{HasDoneGiven}
use Rattle.node_threads.specs.Waiting.{Account, account_of}
use Rattle.node_threads.proofs.GivenDone.{given_all, home_after_given}
use Rattle.node_threads.proofs.worker_loop.WorkerLoop.do_jobs.Given as given
use Rattle.node_threads.proofs.worker_loop.WorkerLoop.do_jobs.Goals as goal

abbrev machine : (g : given.Over) → g.row.M-Setup.Denot → Machine
machine g s =
    hosted g.M.Hosted.blank g.M.Hosted.opened g.M.Hosted.shut g.M.Hosted.heard g.M.Hosted.claim g.M.Hosted.source (g.M.Machine.effects s)
    (g.M.Hosted.next_claim s) (g.M.Hosted.playback s) g.M.Hosted.class

pub returns : goal.returns
returns g c =
    let first = c.args.cell.now.parts in
    let between = c.take_jobs-is_over.new.cell.parts in
    let new = c.turn_all.new.cell.parts in
    let old_inbox = c.args.inbox.now in
    let inbox = c.take_jobs-is_over.new.inbox in
    let over = c.take_jobs-is_over.result in
    let start = account_of c.args.self.now in
    let account = account_of c.take_jobs-is_over.new.self in
    let gathered = c.take_jobs-is_over.new.gathered.items in
    let tally = g.U.Upstream.tally in
    let marked = g.M.Marking.marked in
    let mark = g.M.Hosted.mark in
    let gives = g.I.Inflow.gives in
    let may = c.args.may_wait in
    let M = machine g first.ether.setup in
    let taken = c.take_jobs-is_over.ensures.done in
    let home = home_after_given M tally marked mark gives may (gathered_piece gathered) old_inbox start first over inbox account between taken in
    let turned = subst (λ (s : g.row.M-Setup.Denot). HasTurnedAll (machine g s) gathered between new) (ap (λ e. e.setup) home.ether) c.turn_all.ensures.turned in
    let done = given_all M tally marked mark gives may gathered old_inbox start first over inbox account between new taken turned in
    subst (λ (b : Account _). HasDoneGiven M tally marked mark gives may [] old_inbox start first over inbox b new) (sym c.turn_all.ensures.requests) done
