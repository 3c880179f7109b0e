-- The item at a place begins what is left from there.
use Rattle.std.proofs.Common.{◌≡◌, ℕ, zero, suc, ◌≤◌, inl, inr, List, [], ◌∷◌, length, drop, refl}
use Rattle.std.proofs.lemmas.Option.{slice_get_cases}
use Rattle.std.specs.Prelude.{Some, None, slice_get}

pub front_is : {A : Type 0} (xs : List A) (k : ℕ) (x : A) → slice_get xs k ≡ Some x → drop k xs ≡ x ∷ drop (suc k) xs
front_is [] k x e = absurd cc
front_is (y ∷ xs) zero x e = let same : y ≡ x = cc in rw same refl
front_is (y ∷ xs) (suc k) x e = front_is xs k x e

pub none_behind : {A : Type 0} (xs : List A) (k : ℕ) → slice_get xs k ≡ None → length xs ≤ k
none_behind xs k e = elim (slice_get_cases xs k).1 [ inl p ↦ absurd cc | inr p ↦ p.0 ]
