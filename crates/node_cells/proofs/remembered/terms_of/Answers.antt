use Rattle.std.proofs.Common.{◌≡◌, ◌+◌, ◌<◌, ◌++◌, ◌∷◌, [], ℕ, length, take, ◌∙◌, arith}
use Rattle.raft_log.specs.Logs.{term_at}
use Rattle.node_cells.specs.Sending.{terms_of}
use Rattle.node_cells.proofs.Terms.{terms_more}
use Rattle.node_cells.proofs.remembered.terms_of.Goals as goal

pub loop-before-preserved : goal.loop-before-preserved
loop-before-preserved g c =
    let log = c.args.log.now in
    let i : ℕ = c.loop-before.before in
    let lt : i < length log = omega (arith, c.loop-before-test.true, c.value-len.ensures.value, c.len.ensures.value) in
    let before : c.loop-before.terms.items ≡ terms_of (take i log) = c.loop-before.invariant in
    let pushed : c.push.new.self.items ≡ c.loop-before.terms.items ++ c.term_at.result ∷ [] = c.in_ok-push.ensures.items in
    let term : c.term_at.result ≡ term_at log c.new.result = c.term_at.ensures in
    let more : terms_of (take i log) ++ term_at log c.new.result ∷ [] ≡ terms_of (take (i + 1) log) = terms_more log i c.new.result lt (omega (arith, c.new.ensures)) in
    pushed ∙ ((λ d. before d ++ term d ∷ []) ∙ more)
