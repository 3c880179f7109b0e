use Rattle.std.proofs.Common.{◌≡◌, Bool, true, false, suc, ap, sym, subst}
use Rattle.node_cells.specs.Turns.{CellOf}
use Rattle.node_threads.specs.Served.{HasWorkedOff}
use Rattle.node_threads.specs.Taking.{HasDoneRound}
use Rattle.node_threads.specs.Waiting.{Account, account_of}
use Rattle.node_threads.proofs.Home.{same_home_still}
use Rattle.node_threads.proofs.worker_loop.WorkerLoop.work.Goals as goal
use Rattle.node_threads.proofs.worker_loop.WorkerLoop.work.Goals.{in-None, in-Some+then-not-do_round}
use Rattle.node_threads.proofs.worker_loop.WorkerLoop.work.Invariants.{machine}

pub loop-preserved : goal.loop-preserved
loop-preserved g c =
    let l = c.loop in
    let new = c.do_round.new in
    let round = subst (λ (z : g.row.M-Setup.Denot × Bool).
    HasDoneRound (machine g z.0) g.U.Upstream.tally g.M.Marking.marked g.M.Hosted.mark g.I.Inflow.gives l.self.may_wait l.inbox (account_of l.self) l.cell.parts z.1 new.self.may_wait new.inbox (account_of new.self) new.cell.parts)
    (λ t. (ap (λ e. e.setup) l.invariant.home.ether t, c.if-not-do_round.false t)) c.do_round.ensures.round in
    record {
      home = same_home_still c.args.cell.now.parts l.cell.parts new.cell.parts l.invariant.home c.do_round.ensures.home;
      count = suc l.invariant.count;
      rounds = (l.self.may_wait, l.inbox, account_of l.self, l.cell.parts, l.invariant.rounds, round);
    }

pub returns-clause-rounds : goal.returns-clause-rounds
returns-clause-rounds g c =
    let l = c.loop in
    let first = c.args.cell.now.parts in
    elim c.match-next.branch [
      | in-None w ↦ let no : false ≡ true = w.in-None.ensures.steps in absurd (cc no)
      | in-Some+then-not-do_round w ↦
          let new = w.do_round.new in
          let round = subst (λ (z : g.row.M-Setup.Denot × Bool).
          HasDoneRound (machine g z.0) g.U.Upstream.tally g.M.Marking.marked g.M.Hosted.mark g.I.Inflow.gives l.self.may_wait l.inbox (account_of l.self) l.cell.parts z.1 new.self.may_wait new.inbox (account_of new.self) new.cell.parts)
          (λ t. (ap (λ e. e.setup) l.invariant.home.ether t, w.if-not-do_round.true t)) w.do_round.ensures.round in
          subst (λ (z : g.row.I.Denot × Account g.row.M-Command.Denot × CellOf (machine g first.ether.setup) g.row.M-Setup.Denot g.row.M.Denot g.row.S.Denot g.row.U.Denot).
          HasWorkedOff (machine g first.ether.setup) g.U.Upstream.tally g.M.Marking.marked g.M.Hosted.mark g.I.Inflow.gives c.args.self.now.may_wait c.args.inbox.now (account_of c.args.self.now) first z.0 z.1 z.2)
          (λ t. (sym w.inbox-is t, account_of (sym w.self-is t), (sym w.cell-is t).parts)) (suc l.invariant.count, new.self.may_wait, (l.self.may_wait, l.inbox, account_of l.self, l.cell.parts, l.invariant.rounds, round))
    ]
