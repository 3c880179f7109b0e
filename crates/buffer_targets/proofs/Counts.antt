-- How the lines that readers have seen are counted, one reader after the other.
use Rattle.std.proofs.Common.{◌≡◌, ℕ, zero, suc, ◌+◌, ◌<◌, ◌≤◌, Bool, List, [], ◌∷◌, ◌++◌, length, take, drop, set, get_or, refl, ap, arith, add-one}
use Rattle.std.specs.Prelude.{Some, slice_get}
use Rattle.buffer_targets.specs.Targets.{counted, counted_one}

count_suc : (all gone : ℕ) (here : List Bool) (init : List ℕ) (i d y : ℕ) → i < length init
    → y ≡ counted_one all gone (slice_get here i) (get_or (take i (counted all gone here init) ++ drop i init) i d)
    → set (take i (counted all gone here init) ++ drop i init) i y ≡ take (suc i) (counted all gone here init) ++ drop (suc i) init
count_suc all gone here [] i d y h e = absurd (omega (arith, h))
count_suc all gone [] (n ∷ ns) zero d y h e = ap (λ x. x ∷ ns) e
count_suc all gone (b ∷ bs) (n ∷ ns) zero d y h e = ap (λ x. x ∷ ns) e
count_suc all gone [] (n ∷ ns) (suc i) d y h e = ap (λ xs. n ∷ xs) (count_suc all gone [] ns i d y (omega (arith, h)) e)
count_suc all gone (b ∷ bs) (n ∷ ns) (suc i) d y h e = ap (λ xs. counted_one all gone (Some b) n ∷ xs) (count_suc all gone bs ns i d y (omega (arith, h)) e)

pub count_step : (all gone : ℕ) (here : List Bool) (xs init : List ℕ) (i d y : ℕ) → xs ≡ take i (counted all gone here init) ++ drop i init → i < length init
    → y ≡ counted_one all gone (slice_get here i) (get_or xs i d) → set xs i y ≡ take (i + 1) (counted all gone here init) ++ drop (i + 1) init
count_step all gone here xs init i d y e h v = rw (add-one, e) (count_suc all gone here init i d y h (rw e at v))

pub count_all : (all gone : ℕ) (here : List Bool) (init : List ℕ) (i : ℕ) → length init ≤ i → take i (counted all gone here init) ++ drop i init ≡ counted all gone here init
count_all all gone [] [] zero h = refl
count_all all gone [] [] (suc i) h = refl
count_all all gone (b ∷ bs) [] zero h = refl
count_all all gone (b ∷ bs) [] (suc i) h = refl
count_all all gone [] (n ∷ ns) zero h = absurd (omega (arith, h))
count_all all gone (b ∷ bs) (n ∷ ns) zero h = absurd (omega (arith, h))
count_all all gone [] (n ∷ ns) (suc i) h = ap (λ xs. n ∷ xs) (count_all all gone [] ns i (omega (arith, h)))
count_all all gone (b ∷ bs) (n ∷ ns) (suc i) h = ap (λ xs. counted_one all gone (Some b) n ∷ xs) (count_all all gone bs ns i (omega (arith, h)))
