-- Sums of counts of events.
use Rattle.std.proofs.Common.{◌≡◌, ℕ, suc, ◌+◌, ◌*◌, ◌≤◌, Bool, List, length, arith}
use Rattle.std.proofs.Math.Nat.{mul-le-mul_left}
use Rattle.agreement.specs.Laws.{IsMajority}
use Rattle.progress.specs.Plans.{peers, settle_events, bring_events}
use Rattle.progress.proofs.Lengths.{peers_few}

pub add : (x y p q z : ℕ) → x ≤ p → y ≤ q → z ≡ x + y → z ≤ p + q
add x y p q z a b e = omega arith

pub add3 : (x y p q z : ℕ) → x ≤ 2 → y ≤ p + q → z ≡ x + y → z ≤ 2 + p + q
add3 x y p q z a b e = omega arith

pub one_more : (x : ℕ) → x + 1 ≡ suc x
one_more x = omega arith

pub settle_more : (n x y : ℕ) → x ≤ y → settle_events n x ≤ settle_events n y
settle_more n x y le =
    let small : 3 * suc (x + x) ≤ 3 * suc (y + y) = omega arith in
    over (n * (3 * suc (x + x))) (n * (3 * suc (y + y))) (mul-le-mul_left n small)
  where
    over : (a b : ℕ) → a ≤ b → a + (3 + 3 * n) ≤ b + (3 + 3 * n)
    over a b h = omega arith

pub bring_more : (n x y : ℕ) → x ≤ y → bring_events n x ≤ bring_events n y
bring_more n x y le = let a = settle_more n (suc x) (suc y) (omega arith) in omega arith

pub few_peers : (set : List Bool) (n c : ℕ) → IsMajority n set → length (peers set c) ≤ n
few_peers set n c most = let r = peers_few set c in let e : length set ≡ n = most.0 in omega arith
