-- The greatest boots of some nodes.
use Rattle.std.proofs.Common.{◌≡◌, ◌≢◌, ◌==◌, ℕ, ◌+◌, ◌-◌, zero, suc, max, false, List, [], ◌∷◌, ◌++◌, drop, refl, sym, ap, ◌∙◌, append_assoc, arith}
use Rattle.bouncer_tower.specs.Bodies.{TowerBody}
use Rattle.stable_store.specs.declared.saved.Saved.{Saved}
use Rattle.journal_folder.specs.Counting.{boot_told, greatest_boots, own_boot}

-- that of the first node, and those of the others
pub one_more : (node n : ℕ) (owns group : List (Saved TowerBody)) → n ≢ 0
    → greatest_boots node n owns group ≡ max (own_boot owns) (boot_told node group) ∷ greatest_boots (node + 1) (n - 1) (drop 1 owns) group
one_more node zero owns group h = absurd (h refl)
one_more node (suc n) owns group h =
    let next : suc node ≡ node + 1 = omega arith in
    let less : n ≡ suc n - 1 = omega arith in
    ap (λ (k : ℕ). max (own_boot owns) (boot_told node group) ∷ greatest_boots k n (drop 1 owns) group) next
    ∙ ap (λ (k : ℕ). max (own_boot owns) (boot_told node group) ∷ greatest_boots (node + 1) k (drop 1 owns) group) less

pub not_zero : (n : ℕ) → (n == 0) ≡ false → n ≢ 0
not_zero zero h = λ e. absurd cc
not_zero (suc n) h = λ e. absurd (omega (arith, e))

-- these and those of the others are appended to some
pub pushed : (node n value : ℕ) (owns others group : List (Saved TowerBody)) (old mid new : List ℕ) → n ≢ 0 → mid ≡ old ++ value ∷ [] → value ≡ max (own_boot owns) (boot_told node group) → others ≡ drop 1 owns
    → new ≡ mid ++ greatest_boots (node + 1) (n - 1) others group → new ≡ old ++ greatest_boots node n owns group
pushed node n value owns others group old mid new some first is behind all =
    let rest : List ℕ = greatest_boots (node + 1) (n - 1) (drop 1 owns) group in
    all
    ∙ (ap (λ (xs : List (Saved TowerBody)). mid ++ greatest_boots (node + 1) (n - 1) xs group) behind
    ∙ (ap (λ (xs : List ℕ). xs ++ rest) first
    ∙ (append_assoc old (value ∷ []) rest
    ∙ (ap (λ (k : ℕ). old ++ k ∷ rest) is
    ∙ ap (λ (xs : List ℕ). old ++ xs) (sym (one_more node n owns group some))))))
