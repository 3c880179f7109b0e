use Rattle.std.proofs.Common.{[], refl, ap, subst}
use Rattle.raft_node.specs.Hosts.{hosted}
use Rattle.raft_node.specs.Machine.{Machine}
use Rattle.node_threads.specs.Waiting.{account_of}
use Rattle.node_threads.specs.Work.{HasGoneRound}
use Rattle.node_threads.proofs.GivenDone.{home_after_given}
use Rattle.node_threads.proofs.Going.{home_after_round}
use Rattle.node_threads.proofs.Home.{same_home_still}
use Rattle.node_threads.proofs.worker_loop.WorkerLoop.do_round.Given as given
use Rattle.node_threads.proofs.worker_loop.WorkerLoop.do_round.Goals as goal

abbrev machine : (g : given.Over) → g.row.M-Setup.Denot → Machine
machine g s =
    hosted g.M.Hosted.blank g.M.Hosted.opened g.M.Hosted.shut g.M.Hosted.heard g.M.Hosted.claim g.M.Hosted.source (g.M.Machine.effects s)
    (g.M.Hosted.next_claim s) (g.M.Hosted.playback s) g.M.Hosted.class

pub returns-clause-home : goal.returns-clause-home
returns-clause-home g c =
    let old = c.args.cell.now.parts in
    let jobs = c.do_jobs-is_over in
    let between = jobs.new.cell.parts in
    let new = c.go_round-all_done.new.cell.parts in
    let tally = g.U.Upstream.tally in
    let one = home_after_given (machine g old.ether.setup) tally g.M.Marking.marked g.M.Hosted.mark g.I.Inflow.gives c.args.self.now.may_wait [] c.args.inbox.now (account_of c.args.self.now) old jobs.result jobs.new.inbox (account_of jobs.new.self) between jobs.ensures in
    let two = home_after_round (machine g between.ether.setup) tally jobs.new.self.forwarded (account_of jobs.new.self) between c.go_round-all_done.result (account_of c.go_round-all_done.new.self) new c.go_round-all_done.ensures.gone in
    same_home_still old between new one two

pub returns-clause-round : goal.returns-clause-round
returns-clause-round g c =
    let old = c.args.cell.now.parts in
    let jobs = c.do_jobs-is_over in
    let between = jobs.new.cell.parts in
    let new = c.go_round-all_done.new.cell.parts in
    let tally = g.U.Upstream.tally in
    let forwarded = jobs.new.self.forwarded in
    let account = account_of jobs.new.self in
    let home = home_after_given (machine g old.ether.setup) tally g.M.Marking.marked g.M.Hosted.mark g.I.Inflow.gives c.args.self.now.may_wait [] c.args.inbox.now (account_of c.args.self.now) old jobs.result jobs.new.inbox (account_of jobs.new.self) between jobs.ensures in
    record {
      between = between;
      over = jobs.result;
      forwarded = forwarded;
      account = account;
      jobs = jobs.ensures;
      rest = subst (λ (s : g.row.M-Setup.Denot). HasGoneRound (machine g s) tally forwarded account between c.go_round-all_done.result (account_of c.go_round-all_done.new.self) new) (ap (λ e. e.setup) home.ether) c.go_round-all_done.ensures.gone;
      goes_on_is = refl;
    }

pub returns-clause-reported : goal.returns-clause-reported
returns-clause-reported g c = λ yes.
    let told = c.go_round-all_done.ensures.reported yes in
    record { now = told.now; none_left = told.none_left; status_is = told.status_is; known = told.known }
