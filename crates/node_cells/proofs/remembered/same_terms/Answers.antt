use Rattle.std.proofs.Common.{◌≡◌, ◌≢◌, ◌+◌, ◌<◌, ℕ, suc, length, get_or, sym, ◌∙◌, arith}
use Rattle.node_cells.proofs.Looping.{differ}
use Rattle.node_cells.proofs.Terms.{same_more, same_other}
use Rattle.node_cells.proofs.remembered.same_terms.Goals as goal

pub returns-then-terms-len : goal.returns-then-terms-len
returns-then-terms-len g c =
    let other : length c.args.terms.now ≡ length c.args.log.now → ⊥ = λ e. omega (arith, e, c.if-terms-len.true, c.value-len.ensures.value, c.len.ensures.value) in
    sym (differ c.args.terms.now c.args.log.now other)

pub returns-then-ne : goal.returns-then-ne
returns-then-ne g c =
    let i : ℕ = c.loop-before.before in
    let lt : i < length c.args.log.now = omega (arith, c.loop-before-test.true, c.value-len.ensures.value, c.len.ensures.value) in
    let lt' : i < length c.args.terms.now = omega (arith, lt, c.if-terms-len.false, c.value-len.ensures.value, c.len.ensures.value) in
    let next : c.new.result ≡ suc i = omega (arith, c.new.ensures) in
    let t : ℕ = c.index-terms-before.result in
    let there : t ≡ get_or c.args.terms.now i t = c.index-terms-before.is in
    let other : c.term_at.result ≢ c.index-terms-before.result = grind (arith, c.if-ne.true, c.ne.ensures) in
    sym (same_other c.args.terms.now c.args.log.now i c.new.result t lt' lt next (λ same. other (c.term_at.ensures ∙ (same ∙ sym there)))) ∙ c.loop-before.invariant

pub loop-before-preserved : goal.loop-before-preserved
loop-before-preserved g c =
    let i : ℕ = c.loop-before.before in
    let lt : i < length c.args.log.now = omega (arith, c.loop-before-test.true, c.value-len.ensures.value, c.len.ensures.value) in
    let lt' : i < length c.args.terms.now = omega (arith, lt, c.if-terms-len.false, c.value-len.ensures.value, c.len.ensures.value) in
    let next : c.new.result ≡ suc i = omega (arith, c.new.ensures) in
    let t : ℕ = c.index-terms-before.result in
    let there : t ≡ get_or c.args.terms.now i t = c.index-terms-before.is in
    let same : c.term_at.result ≡ c.index-terms-before.result = grind (arith, c.if-ne.false, c.ne.ensures) in
    same_more c.args.terms.now c.args.log.now i c.new.result (i + 1) t lt' lt next (omega arith) (sym c.term_at.ensures ∙ (same ∙ there)) ∙ c.loop-before.invariant
