-- The same bytes are one list.
use Rattle.std.proofs.Common.{◌≡◌, ℕ, Bool, true, false, List, [], ◌∷◌, refl, ap, ◌∙◌, sym, arith, subst}
use Rattle.std.proofs.lemmas.Bool.Decides.{nat_tests}
use Rattle.irc_line.specs.Names.{same_bytes}
use Rattle.irc_line.proofs.Booleans.{and_left, and_right, and_both}
use Rattle.irc_line.proofs.Numbers.{eq_of}

-- what is not true is false
pub false_from : (b : Bool) → (b ≡ true → false ≡ true) → false ≡ b
false_from true h = h refl
false_from false h = refl

-- the same bytes are one list
pub same_bytes-refl : (a : List ℕ) → same_bytes a a ≡ true
same_bytes-refl [] = refl
same_bytes-refl (x ∷ xs) = and_both _ _ (grind (arith, nat_tests)) (same_bytes-refl xs)

pub same_bytes-eq : (a b : List ℕ) → same_bytes a b ≡ true → a ≡ b
same_bytes-eq [] [] e = refl
same_bytes-eq [] (y ∷ ys) e = cc
same_bytes-eq (x ∷ xs) [] e = cc
same_bytes-eq (x ∷ xs) (y ∷ ys) e =
    ap (λ z. z ∷ xs) (eq_of x y (and_left _ _ e)) ∙ ap (λ zs. y ∷ zs) (same_bytes-eq xs ys (and_right _ _ e))

same_bytes-sym_by : (a b : List ℕ) (t : Bool) → same_bytes a b ≡ t → (same_bytes b a ≡ true → t ≡ true) → t ≡ same_bytes b a
same_bytes-sym_by a b true e back = let same = same_bytes-eq a b e in subst (λ c. true ≡ same_bytes b c) (sym same) (sym (same_bytes-refl b))
same_bytes-sym_by a b false e back = false_from (same_bytes b a) (λ h. back h)

pub same_bytes-sym : (a b : List ℕ) → same_bytes a b ≡ same_bytes b a
same_bytes-sym a b = same_bytes-sym_by a b (same_bytes a b) refl (λ h. subst (λ c. same_bytes a c ≡ true) (sym (same_bytes-eq b a h)) (same_bytes-refl a))
