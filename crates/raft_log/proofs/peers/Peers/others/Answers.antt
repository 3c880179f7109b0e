use Rattle.std.proofs.Common.{◌≡◌, ◌≢◌, ◌+◌, ◌∷◌, [], ◌++◌, ℕ, List, refl, ap, ◌∙◌, arith}
use Rattle.raft_log.proofs.Others.{left, left-other}
use Rattle.raft_log.proofs.peers.Peers.others.Goals as goal

pub loop-last-preserved-in-Continue-branch-2 : goal.loop-last-preserved-in-Continue-branch-2
loop-last-preserved-in-Continue-branch-2 c =
    let size : ℕ = c.value-size.result in
    let last : ℕ = c.loop-last.last in
    let all : List ℕ = c.loop-last.all.items in
    let items : c.push.new.self.items ≡ all ++ c.new.result ∷ [] = c.in_ok-push.ensures.items in
    let other : last + 1 ≢ c.args.node = λ h. c.if-last-value.true (omega (arith, h, c.value.ensures.value)) in
    ap (λ (t : List ℕ). t ++ left c.args.node size (last + 1)) items
    ∙ (ap (λ (k : ℕ). (all ++ k ∷ []) ++ left c.args.node size (last + 1)) c.new.ensures
    ∙ (left-other c.args.node size last (last + 1) all refl (omega arith) other ∙ c.loop-last.invariant))
