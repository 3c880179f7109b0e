use Rattle.std.proofs.Common.{◌≡◌, ℕ, suc, ◌+◌, List, drop, sym, ap, ◌∙◌, arith}
use Rattle.std.proofs.lemmas.Bool.{eqb-false}
use Rattle.raft_log.specs.declared.entry.Entry.{Entry}
use Rattle.raft_log.specs.Logs.{standing, term_at}
use Rattle.raft_log.proofs.Changes.{stands-more, stands-other, stands-past, stands-end}
use Rattle.raft_log.proofs.log.Log.standing.Goals.{else-index-len-via-then-index-len+else-eq, else-index-len-via-else-index-len}
use Rattle.raft_log.proofs.log.Log.standing.Goals as goal

pub returns-else-index-len-clause-value : goal.returns-else-index-len-clause-value
returns-else-index-len-clause-value g c =
    let log : List (Entry g.row.B.Denot) = c.args.self.now in
    let es : List (Entry g.row.B.Denot) = c.args.entries.now in
    let index : ℕ = c.loop-entry.index in
    let e : Entry g.row.B.Denot = c.entry-item.result in
    let none : standing (drop index log) (drop c.loop-entry.entry-index es) ≡ 0 =
    elim c.else-index-len.branch [
      | else-index-len-via-then-index-len+else-eq w ↦
          let at : w.new.result ≡ suc index = omega (arith, w.new.ensures) in
          stands-other log es index c.loop-entry.entry-index e (omega (arith, w.if-index-len.true, c.value-len.ensures.value, c.len.ensures.value)) c.loop-entry-test.true c.entry-item.is
          (λ same. eqb-false w.term_at.result e.term (sym w.eq.ensures ∙ w.if-eq.false) (w.term_at.ensures ∙ (ap (λ (k : ℕ). term_at log k) at ∙ same)))
      | else-index-len-via-else-index-len w ↦ stands-past log (drop c.loop-entry.entry-index es) index (omega (arith, w.if-index-len.false, c.value-len.ensures.value, c.len.ensures.value))
    ]
    in
    omega (arith, none, c.loop-entry.invariant.rest, c.loop-entry.invariant.counted, c.value.ensures.value)

pub loop-entry-preserved : goal.loop-entry-preserved
loop-entry-preserved g c =
    let log : List (Entry g.row.B.Denot) = c.args.self.now in
    let es : List (Entry g.row.B.Denot) = c.args.entries.now in
    let index : ℕ = c.loop-entry.index in
    let i : ℕ = c.loop-entry.entry-index in
    let e : Entry g.row.B.Denot = c.entry-item.result in
    let at : suc index ≡ c.new.result = omega (arith, c.new.ensures) in
    let same : c.term_at.result ≡ e.term = grind (arith, c.if-eq.true, c.eq.ensures) in
    let term : term_at log (suc index) ≡ e.term = ap (λ (k : ℕ). term_at log k) at ∙ (sym c.term_at.ensures ∙ same) in
    let more : standing (drop index log) (drop i es) ≡ suc (standing (drop (index + 1) log) (drop (i + 1) es)) =
    stands-more log es index i (index + 1) (i + 1) e (omega arith) (omega arith) (omega (arith, c.if-index-len.true, c.value-len.ensures.value, c.len.ensures.value)) c.loop-entry-test.true c.entry-item.is term
    in
    record {
      counted = omega (arith, c.loop-entry.invariant.counted);
      within = omega (arith, c.if-index-len.true, c.value-len.ensures.value, c.len.ensures.value);
      rest = omega (arith, more, c.loop-entry.invariant.rest);
    }

pub returns-clause-value : goal.returns-clause-value
returns-clause-value g c =
    omega (arith, c.loop-entry-test.false, c.loop-entry.auto.entry-index-end, c.loop-entry.invariant.rest, stands-end (drop c.loop-entry.index c.args.self.now) c.args.entries.now c.loop-entry.entry-index c.loop-entry-test.false)
