-- Numbers in front of other text.
use Rattle.std.proofs.Common.{◌≡◌, ℕ, List, ◌∷◌, ◌++◌, ap, arith}
use Rattle.std.specs.Prelude.{decimal, Some, None}
use Rattle.raft_log.specs.Lists.{IsNode}
use Rattle.recorder.specs.Splits.{split_at}
use Rattle.recorder.specs.Readings.{IsWord, number_text}
use Rattle.recorder.proofs.Splits.{joined, parts, number_lacks}

pub fronted : (n : ℕ) (tail bytes : List ℕ) → IsWord n → decimal n ++ 32 ∷ tail ≡ bytes → split_at 32 bytes ≡ Some (decimal n, tail)
fronted n tail bytes small e = rw (← e) (joined 32 (decimal n) tail (number_lacks 32 n (omega arith) small))

-- a text without a space has no number in front
pub no_front : (bytes : List ℕ) → split_at 32 bytes ≡ None → (p : ℕ × List ℕ) → IsWord p.0 → number_text p ≡ bytes → ⊥
no_front bytes none p small e = let f = fronted p.0 p.1 bytes small e in absurd cc

-- a number in front has the digits of the front
pub other_front : (bytes front tail : List ℕ) → split_at 32 bytes ≡ Some (front, tail) → (p : ℕ × List ℕ) → IsWord p.0 → number_text p ≡ bytes → decimal p.0 ≡ front
other_front bytes front tail is p small e =
    let f = fronted p.0 p.1 bytes small e in
    let pair : (decimal p.0, p.1) ≡ (front, tail) = cc in
    ap (λ (x : List ℕ × List ℕ). x.0) pair

-- a node is a small number
pub node_small : (n : ℕ) → IsNode n → IsWord n
node_small n node = omega (arith, node)

-- the number in front, and what follows
pub front_is : (bytes front tail : List ℕ) (n : ℕ) → split_at 32 bytes ≡ Some (front, tail) → decimal n ≡ front → decimal n ++ 32 ∷ tail ≡ bytes
front_is bytes front tail n is e = rw e (parts 32 bytes front tail is)
