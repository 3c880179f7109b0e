-- What it means that tests passed.
use Rattle.std.proofs.Common.{◌≡◌, ℕ, zero, suc, ◌<◌, ◌+◌, List, [], ◌∷◌, refl, ap, subst, Bool, true, false, IsTrue, take, add-one, arith}
use Rattle.std.specs.Prelude.{nat_lt, slice_get, Some}
use Rattle.std.proofs.lemmas.Bool.Decides.{nat_tests}

pub of_true : (b : Bool) → IsTrue b → b ≡ true
of_true true e = refl
of_true false e = cc

pub from_true : (b : Bool) → b ≡ true → IsTrue b
from_true true e = refl
from_true false e = cc

some_is : {X : Type 0} (x y : X) → Some x ≡ Some y → x ≡ y
some_is x y e = cc

head_is : {X : Type 0} (x y : X) (xs ys : List X) → x ∷ xs ≡ y ∷ ys → x ≡ y
head_is x y xs ys e = cc

tail_is : {X : Type 0} (x y : X) (xs ys : List X) → x ∷ xs ≡ y ∷ ys → xs ≡ ys
tail_is x y xs ys e = cc

both : {X : Type 0} (x y : X) (xs ys : List X) → x ≡ y → xs ≡ ys → x ∷ xs ≡ y ∷ ys
both x y xs ys e f = cc

more : {X : Type 0} (xs ys : List X) (i : ℕ) → take i xs ≡ take i ys → slice_get xs i ≡ slice_get ys i → take (suc i) xs ≡ take (suc i) ys
more [] [] i f g = refl
more [] (y ∷ ys) zero f g = cc
more [] (y ∷ ys) (suc i) f g = cc
more (x ∷ xs) [] zero f g = cc
more (x ∷ xs) [] (suc i) f g = cc
more (x ∷ xs) (y ∷ ys) zero f g = ap (λ z. z ∷ []) (some_is x y g)
more (x ∷ xs) (y ∷ ys) (suc i) f g = both x y _ _ (head_is x y _ _ f) (more xs ys i (tail_is x y _ _ f) g)

-- two lists that are the same up to a place, and also at it
pub more_same : {X : Type 0} (xs ys : List X) (i : ℕ) → take i xs ≡ take i ys → slice_get xs i ≡ slice_get ys i → take (i + 1) xs ≡ take (i + 1) ys
more_same xs ys i f g = rw (add-one i) (more xs ys i f g)

below_by : (P : ℕ → Type 0) (k : ℕ) → ((n : ℕ) → n < k → P n) → P k → (n : ℕ) → n < k + 1 → (b : Bool) → nat_lt n k ≡ b → P n
below_by P k f p n lt true e = f n (grind (arith, nat_tests))
below_by P k f p n lt false e = let here : k ≡ n = grind (arith, nat_tests) in subst P here p

-- what holds of all numbers below one, and of that one
pub below_more : (P : ℕ → Type 0) (k : ℕ) → ((n : ℕ) → n < k → P n) → P k → (n : ℕ) → n < k + 1 → P n
below_more P k f p n lt = below_by P k f p n lt (nat_lt n k) refl
