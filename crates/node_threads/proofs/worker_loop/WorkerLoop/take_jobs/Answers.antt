use Rattle.std.proofs.Common.{◌≡◌, ◌+◌, Bool, true, false, refl, sym, ap, ◌∙◌, subst, arith}
use Rattle.node_threads.specs.declared.inflow.Next.TheVariants as next
use Rattle.node_threads.specs.Reports.{is_end}
use Rattle.node_threads.specs.Taking.{HasTakenUp}
use Rattle.node_threads.specs.Waiting.{account_of}
use Rattle.node_threads.proofs.GivenDone.{home_after_taking, taking_end, taking_next, taking_none, taking_stop}
use Rattle.node_threads.proofs.Taken.{for_node_end, none_ready, over_end}
use Rattle.node_threads.proofs.Waiting.{heeds_stop}
use Rattle.node_threads.proofs.worker_loop.WorkerLoop.take_jobs.Goals as goal
use Rattle.node_threads.proofs.worker_loop.WorkerLoop.take_jobs.Invariants.{machine}

pub loop-place-init : goal.loop-place-init
loop-place-init g c =
    let first = c.args.cell.now.parts in
    record {
      taking = taking_none (machine g first.ether.setup) g.U.Upstream.tally g.M.Marking.marked g.M.Hosted.mark g.I.Inflow.gives c.args.may_wait c.args.gathered.now.items c.args.inbox.now (account_of c.args.self.now) first c.requires;
      ready = none_ready c.args.gathered.now.items first c.requires;
    }

pub loop-place-preserved : goal.loop-place-preserved
loop-place-preserved g c =
    let first = c.args.cell.now.parts in
    let l = c.loop-place in
    let room = c.loop-place-test.true in
    let old = l.cell.parts in
    let new = c.take_up.new.cell.parts in
    let before = l.gathered.items in
    let after = c.take_up.new.gathered.items in
    let tally = g.U.Upstream.tally in
    let marked = g.M.Marking.marked in
    let mark = g.M.Hosted.mark in
    let gives = g.I.Inflow.gives in
    let M = machine g first.ether.setup in
    let job = c.in-Job.job in
    let home = home_after_taking M tally marked mark gives c.args.may_wait l.place before c.args.inbox.now (account_of c.args.self.now) first l.inbox (account_of l.self) old l.invariant.taking in
    let taken = subst (λ (s : g.row.M-Setup.Denot). HasTakenUp (machine g s) tally marked mark job before old after new) (ap (λ e. e.setup) home.ether) c.take_up.ensures.taken in
    let gave = subst (λ (waits : Bool). gives c.loop-place.inbox waits (next.Job c.in-Job.job) c.next.new.self) c.waits_at.ensures c.in-Job.ensures in
    let more = taking_next M tally marked mark gives c.args.may_wait l.place (l.place + 1) c.args.inbox.now (account_of c.args.self.now) first l.inbox (account_of l.self) job before old
    c.next.new.self (account_of c.take_up.new.self) after new refl (omega (arith, room)) l.invariant.taking gave (sym c.is_end.ensures ∙ c.if-is_end.false)
    c.take_up.ensures.requests taken in
    record {
      taking = more;
      ready = more.ready;
    }

pub returns-then-is_end-clause-done : goal.returns-then-is_end-clause-done
returns-then-is_end-clause-done g c =
    let ends : is_end c.in-Job.job ≡ true = sym c.is_end.ensures ∙ c.if-is_end.true in
    let first = c.args.cell.now.parts in
    let l = c.loop-place in
    let room = c.loop-place-test.true in
    let gives = g.I.Inflow.gives in
    let gave = subst (λ (waits : Bool). gives c.loop-place.inbox waits (next.Job c.in-Job.job) c.next.new.self) c.waits_at.ensures c.in-Job.ensures in
    taking_end (machine g first.ether.setup) g.U.Upstream.tally g.M.Marking.marked g.M.Hosted.mark gives c.args.may_wait l.place l.gathered.items c.args.inbox.now (account_of c.args.self.now) first l.inbox
    (account_of l.self) l.cell.parts
    (next.Job c.in-Job.job) c.next.new.self true l.invariant.taking (omega (arith, room)) gave (over_end c.in-Job.job true ends) (for_node_end c.in-Job.job ends)
    (heeds_stop c.in-Job.job (account_of l.self) ends)

pub returns-in-Nothing-clause-done : goal.returns-in-Nothing-clause-done
returns-in-Nothing-clause-done g c =
    let first = c.args.cell.now.parts in
    let l = c.loop-place in
    let room = c.loop-place-test.true in
    let gives = g.I.Inflow.gives in
    let gave = subst (λ (waits : Bool). gives c.loop-place.inbox waits (next.Nothing) c.next.new.self) c.waits_at.ensures c.in-Nothing.ensures in
    taking_end (machine g first.ether.setup) g.U.Upstream.tally g.M.Marking.marked g.M.Hosted.mark gives c.args.may_wait l.place l.gathered.items c.args.inbox.now (account_of c.args.self.now) first l.inbox
    (account_of l.self) l.cell.parts
    next.Nothing c.next.new.self false l.invariant.taking (omega (arith, room)) gave refl refl refl

pub returns-in-Over-clause-done : goal.returns-in-Over-clause-done
returns-in-Over-clause-done g c =
    let first = c.args.cell.now.parts in
    let l = c.loop-place in
    let room = c.loop-place-test.true in
    let gives = g.I.Inflow.gives in
    let gave = subst (λ (waits : Bool). gives c.loop-place.inbox waits (next.Over) c.next.new.self) c.waits_at.ensures c.in-Over.ensures in
    taking_end (machine g first.ether.setup) g.U.Upstream.tally g.M.Marking.marked g.M.Hosted.mark gives c.args.may_wait l.place l.gathered.items c.args.inbox.now (account_of c.args.self.now) first l.inbox
    (account_of l.self) l.cell.parts
    next.Over c.next.new.self true l.invariant.taking (omega (arith, room)) gave refl refl refl

pub returns-clause-done : goal.returns-clause-done
returns-clause-done g c =
    let first = c.args.cell.now.parts in
    let l = c.loop-place in
    let least = c.loop-place-test.false in
    let most = l.auto.place-end in
    taking_stop (machine g first.ether.setup) g.U.Upstream.tally g.M.Marking.marked g.M.Hosted.mark g.I.Inflow.gives c.args.may_wait l.place l.gathered.items c.args.inbox.now (account_of c.args.self.now) first l.inbox
    (account_of l.self) l.cell.parts
    l.invariant.taking (omega (arith, least)) (omega (arith, most))

pub returns-then-alone-ge-MOST_ALONE-clause-done : goal.returns-then-alone-ge-MOST_ALONE-clause-done
returns-then-alone-ge-MOST_ALONE-clause-done g c =
    let first = c.args.cell.now.parts in
    let l = c.loop-place in
    let room = c.loop-place-test.true in
    let old = l.cell.parts in
    let new = c.take_up.new.cell.parts in
    let before = l.gathered.items in
    let after = c.take_up.new.gathered.items in
    let tally = g.U.Upstream.tally in
    let marked = g.M.Marking.marked in
    let mark = g.M.Hosted.mark in
    let gives = g.I.Inflow.gives in
    let M = machine g first.ether.setup in
    let job = c.in-Job.job in
    let home = home_after_taking M tally marked mark gives c.args.may_wait l.place before c.args.inbox.now (account_of c.args.self.now) first l.inbox (account_of l.self) old l.invariant.taking in
    let taken = subst (λ (s : g.row.M-Setup.Denot). HasTakenUp (machine g s) tally marked mark job before old after new) (ap (λ e. e.setup) home.ether) c.take_up.ensures.taken in
    let gave = subst (λ (waits : Bool). gives c.loop-place.inbox waits (next.Job c.in-Job.job) c.next.new.self) c.waits_at.ensures c.in-Job.ensures in
    let more = taking_next M tally marked mark gives c.args.may_wait l.place (l.place + 1) c.args.inbox.now (account_of c.args.self.now) first l.inbox (account_of l.self) job before old
    c.next.new.self (account_of c.take_up.new.self) after new refl (omega (arith, room)) l.invariant.taking gave (sym c.is_end.ensures ∙ c.if-is_end.false)
    c.take_up.ensures.requests taken in
    taking_stop M tally marked mark gives c.args.may_wait (l.place + 1) after c.args.inbox.now (account_of c.args.self.now) first c.next.new.self (account_of c.take_up.new.self) new more (omega arith) (omega (arith, room))

pub returns-then-alone-ge-MOST_ALONE-clause-ready : goal.returns-then-alone-ge-MOST_ALONE-clause-ready
returns-then-alone-ge-MOST_ALONE-clause-ready g c =
    let first = c.args.cell.now.parts in
    let l = c.loop-place in
    let room = c.loop-place-test.true in
    let old = l.cell.parts in
    let new = c.take_up.new.cell.parts in
    let before = l.gathered.items in
    let after = c.take_up.new.gathered.items in
    let tally = g.U.Upstream.tally in
    let marked = g.M.Marking.marked in
    let mark = g.M.Hosted.mark in
    let gives = g.I.Inflow.gives in
    let M = machine g first.ether.setup in
    let job = c.in-Job.job in
    let home = home_after_taking M tally marked mark gives c.args.may_wait l.place before c.args.inbox.now (account_of c.args.self.now) first l.inbox (account_of l.self) old l.invariant.taking in
    let taken = subst (λ (s : g.row.M-Setup.Denot). HasTakenUp (machine g s) tally marked mark job before old after new) (ap (λ e. e.setup) home.ether) c.take_up.ensures.taken in
    let gave = subst (λ (waits : Bool). gives c.loop-place.inbox waits (next.Job c.in-Job.job) c.next.new.self) c.waits_at.ensures c.in-Job.ensures in
    let more = taking_next M tally marked mark gives c.args.may_wait l.place (l.place + 1) c.args.inbox.now (account_of c.args.self.now) first l.inbox (account_of l.self) job before old
    c.next.new.self (account_of c.take_up.new.self) after new refl (omega (arith, room)) l.invariant.taking gave (sym c.is_end.ensures ∙ c.if-is_end.false)
    c.take_up.ensures.requests taken in
    more.ready
