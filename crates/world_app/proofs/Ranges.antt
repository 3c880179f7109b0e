-- The text for each number of a range, number by number.
use Rattle.std.proofs.Common.{◌≡◌, ℕ, suc, ◌+◌, ◌-◌, ◌<◌, List, ◌∷◌, ◌++◌, append_assoc, flat_map, refl, ap, sym, ◌∙◌, arith}
use Rattle.raft_log.specs.Lists.{range_from}

next_range : (a k : ℕ) → a < k → range_from (suc a) (k - a) ≡ suc a ∷ range_from (suc (a + 1)) (k - (a + 1))
next_range a k lt =
    let e : k - a ≡ suc (k - (a + 1)) = omega arith in
    let f : a + 1 ≡ suc a = omega arith in
    rw (e, f) refl

-- a text continues with the text for the next number
pub next_text : (of : ℕ → List ℕ) (a k : ℕ) (now then all : List ℕ) → a < k → then ≡ now ++ of (a + 1) → now ++ flat_map of (range_from (suc a) (k - a)) ≡ all
    → then ++ flat_map of (range_from (suc (a + 1)) (k - (a + 1))) ≡ all
next_text of a k now then all lt more was =
    let f : a + 1 ≡ suc a = omega arith in
    let rest = flat_map of (range_from (suc (a + 1)) (k - (a + 1))) in
    ap (λ t. t ++ rest) more ∙ append_assoc now (of (a + 1)) rest
    ∙ ap (λ (n : ℕ). now ++ (of n ++ rest)) f
    ∙ ap (λ (ns : List ℕ). now ++ flat_map of ns) (sym (next_range a k lt)) ∙ was
