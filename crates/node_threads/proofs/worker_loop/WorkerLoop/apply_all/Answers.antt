use Rattle.std.proofs.Common.{◌≡◌, ◌+◌, true, false, suc, None, is_some, inl, inr, refl, sym, ap, ◌∙◌, subst, arith}
use Rattle.raft_node.specs.declared.input.Input.TheVariants.{Apply}
use Rattle.node_threads.specs.Work.{AppliesNone, HasFailed, HasHadTurn}
use Rattle.node_threads.proofs.Going.{applies_next}
use Rattle.node_threads.proofs.Home.{home_after_input, same_home, same_home_still}
use Rattle.node_threads.specs.Waiting.{account_of}
use Rattle.node_threads.proofs.Waiting.{back_again, none_back}
use Rattle.node_threads.proofs.worker_loop.WorkerLoop.apply_all.Goals as goal
use Rattle.node_threads.proofs.worker_loop.WorkerLoop.apply_all.Goals.{then-is_some-via-then-is_some, then-is_some-via-else-is_some+then-value}
use Rattle.node_threads.proofs.worker_loop.WorkerLoop.apply_all.Invariants.{machine}

pub loop-count-init : goal.loop-count-init
loop-count-init g c = (same_home c.args.cell.now.parts _ refl, refl, none_back _ _ refl)

pub loop-count-preserved : goal.loop-count-preserved
loop-count-preserved g c =
    let first = c.args.cell.now.parts in
    let old = c.loop-count.cell.parts in
    let new = c.turn.new.cell.parts in
    let M = machine g first.ether.setup in
    let turned = subst (λ (s : g.row.M-Setup.Denot). HasHadTurn (machine g s) g.U.Upstream.tally old Apply new) (ap (λ e. e.setup) c.loop-count.invariant.0.ether) c.turn.ensures.turn in (
      same_home_still first old new c.loop-count.invariant.0 (home_after_input M g.U.Upstream.tally old Apply new turned),
      applies_next M g.U.Upstream.tally c.loop-count.count (c.loop-count.count + 1) first old new (omega arith) c.loop-count.invariant.1 turned,
      back_again (account_of c.args.self.now) (account_of c.loop-count.self) (account_of c.turn.new.self) c.loop-count.invariant.2 c.turn.ensures.requests,
    )

pub returns-then-is_some-clause-applied : goal.returns-then-is_some-clause-applied
returns-then-is_some-clause-applied g c = (c.loop-count.count, c.loop-count.invariant.1)

pub returns-then-not-turn-clause-applied : goal.returns-then-not-turn-clause-applied
returns-then-not-turn-clause-applied g c =
    let first = c.args.cell.now.parts in
    let old = c.loop-count.cell.parts in
    let new = c.turn.new.cell.parts in
    let M = machine g first.ether.setup in
    let turned = subst (λ (s : g.row.M-Setup.Denot). HasHadTurn (machine g s) g.U.Upstream.tally old Apply new) (ap (λ e. e.setup) c.loop-count.invariant.0.ether) c.turn.ensures.turn in
    (suc c.loop-count.count, applies_next M g.U.Upstream.tally c.loop-count.count (suc c.loop-count.count) first old new refl c.loop-count.invariant.1 turned)

pub returns-then-not-turn-clause-requests : goal.returns-then-not-turn-clause-requests
returns-then-not-turn-clause-requests g c = back_again (account_of c.args.self.now) (account_of c.loop-count.self) (account_of c.turn.new.self) c.loop-count.invariant.2 c.turn.ensures.requests

pub returns-clause-applied : goal.returns-clause-applied
returns-clause-applied g c = (c.loop-count.count, c.loop-count.invariant.1)

pub returns-then-is_some-clause-stops : goal.returns-then-is_some-clause-stops
returns-then-is_some-clause-stops g c =
    let status = c.status-status in
    let none : AppliesNone c.loop-count.cell.parts = elim c.then-is_some.branch [
      | then-is_some-via-then-is_some w ↦ inl
          (λ up. let gone : status.result.down ≡ None = status.ensures.up.1 up in
          let one : is_some status.result.down ≡ true = sym c.is_some.ensures ∙ w.if-is_some.true in
          let two : false ≡ true = sym (ap (λ d. is_some d) gone) ∙ one in
          cc two)
      | then-is_some-via-else-is_some+then-value w ↦ inr
          (omega (arith, w.if-value.true, w.value.ensures.value, w.value-else-is_some.ensures.value, ap (λ s. s.commit) status.ensures.told, ap (λ s. s.applied) status.ensures.told))
    ] in (c.loop-count.count, c.loop-count.cell.parts, c.loop-count.invariant.1, inl (refl, none, refl))

pub returns-then-not-turn-clause-stops : goal.returns-then-not-turn-clause-stops
returns-then-not-turn-clause-stops g c =
    let first = c.args.cell.now.parts in
    let old = c.loop-count.cell.parts in
    let new = c.turn.new.cell.parts in
    let failed = subst (λ (s : g.row.M-Setup.Denot). HasFailed (machine g s) g.U.Upstream.tally old Apply new) (ap (λ e. e.setup) c.loop-count.invariant.0.ether) (c.if-not-turn.ensures.failed refl) in
    (c.loop-count.count, old, c.loop-count.invariant.1, inr (inl failed))

pub returns-clause-stops : goal.returns-clause-stops
returns-clause-stops g c =
    let least = c.loop-count-test.false in
    let most = c.loop-count.auto.count-end in
    (c.loop-count.count, c.loop-count.cell.parts, c.loop-count.invariant.1, inr (inr (refl, omega (arith, least, most), refl)))
