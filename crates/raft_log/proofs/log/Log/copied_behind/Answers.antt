use Rattle.std.proofs.Common.{◌≡◌, ℕ, suc, ◌+◌, ◌-◌, ◌<◌, List, [], ◌∷◌, ◌++◌, length, take, drop, Some, sym, ap, ◌∙◌, arith}
use Rattle.raft_log.specs.declared.entry.Entry.{Entry}
use Rattle.raft_log.specs.Lists.{item}
use Rattle.raft_log.proofs.Changes.{copied-more}
use Rattle.raft_log.proofs.log.Log.copied_behind.Goals as goal

pub loop-before-preserved : goal.loop-before-preserved
loop-before-preserved g c =
    let log : List (Entry g.row.B.Denot) = c.args.self.now in
    let i : ℕ = c.args.index in
    let b : ℕ = c.loop-before.before in
    let x : Entry g.row.B.Denot = record { term = c.term_at-term.result; body = c.in_ok-body.body } in
    let from : b ≡ i + (b - i) = omega (arith, c.loop-before.auto.before, c.value-before.ensures.value) in
    let within : b < length log = grind (arith, c.loop-before-test.true, c.value-3.ensures.value, c.min-count.ensures, c.value.ensures.value, c.value-2.ensures.value, c.len.ensures.value, c.requires) in
    let at : suc b ≡ c.new-index.result = omega (arith, c.new-index.ensures) in
    let there : item log (suc b) ≡ Some x = ap (item log) at ∙ (c.body.ensures ∙ (λ p. Some (record { term = sym c.term_at-term.ensures p; body = sym c.in_ok-body.ensures p }))) in
    let count : suc (b - i) ≡ b + 1 - i = omega (arith, from) in
    c.in_ok-push.ensures.items
    ∙ (ap (λ (z : List (Entry g.row.B.Denot)). z ++ x ∷ []) c.loop-before.invariant
    ∙ (sym (copied-more log i (b - i) b x from within there) ∙ ap (λ (n : ℕ). take n (drop i log)) count))
