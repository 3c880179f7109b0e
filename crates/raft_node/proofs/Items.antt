-- The item at a place of a list that was written to, or that repeats one item. Places count from 1.
use Rattle.std.proofs.Common.{◌≡◌, ℕ, zero, suc, ◌≤◌, List, [], ◌∷◌, length, get_or, set, replicate, slice_get, Some, refl, ap, arith, ◌⊎◌, inl, inr, ⊎_elim, length-set}
use Rattle.raft_log.specs.Lists.{item, item_or, with_item}

get_or-set_cases : {A : Type 0} (xs : List A) (i j : ℕ) (x d : A) → ((j ≡ i) × (get_or (set xs i x) j d ≡ x)) ⊎ (get_or (set xs i x) j d ≡ get_or xs j d)
get_or-set_cases [] i j x d = inr refl
get_or-set_cases (y ∷ xs) zero zero x d = inl (refl, refl)
get_or-set_cases (y ∷ xs) zero (suc j) x d = inr refl
get_or-set_cases (y ∷ xs) (suc i) zero x d = inr refl
get_or-set_cases (y ∷ xs) (suc i) (suc j) x d =
    ⊎_elim (λ h. inl (ap suc h.0, h.1)) (λ h. inr h) (get_or-set_cases xs i j x d)

-- what a write leaves at a place
pub item-with_cases : {A : Type 0} (xs : List A) (i j : ℕ) (x d : A) → ((j ≡ i) × (item_or (with_item xs i x) j d ≡ x)) ⊎ (item_or (with_item xs i x) j d ≡ item_or xs j d)
item-with_cases xs zero j x d = inr refl
item-with_cases xs (suc i) zero x d = inr refl
item-with_cases xs (suc i) (suc j) x d = ⊎_elim (λ h. inl (ap suc h.0, h.1)) (λ h. inr h) (get_or-set_cases xs i j x d)

pub length-with_item : {A : Type 0} (xs : List A) (i : ℕ) (x : A) → length (with_item xs i x) ≡ length xs
length-with_item xs zero x = refl
length-with_item xs (suc i) x = length-set xs i x

get_set : {A : Type 0} (w : List A) (i : ℕ) (x : A) (j : ℕ) (y : A) → slice_get (set w i x) j ≡ Some y → ((j ≡ i) × (x ≡ y)) ⊎ ((j ≡ i → ⊥) × (slice_get w j ≡ Some y))
get_set [] i x j y h = absurd (cc h)
get_set (s ∷ w) zero x zero y h = inl (refl, cc h)
get_set (s ∷ w) zero x (suc j) y h = inr ((λ e. omega arith), h)
get_set (s ∷ w) (suc i) x zero y h = inr ((λ e. omega arith), h)
get_set (s ∷ w) (suc i) x (suc j) y h =
    ⊎_elim (λ r. inl (ap suc r.0, r.1)) (λ r. inr ((λ e. r.0 (omega arith)), r.1)) (get_set w i x j y h)

pub item_of_with : {A : Type 0} (w : List A) (i : ℕ) (x : A) (j : ℕ) (y : A) (z : A) → item w i ≡ Some z → item (with_item w i x) j ≡ Some y → ((j ≡ i) × (x ≡ y)) ⊎ ((j ≡ i → ⊥) × (item w j ≡ Some y))
item_of_with w zero x j y z at h = absurd (cc at)
item_of_with w (suc i) x zero y z at h = absurd (cc h)
item_of_with w (suc i) x (suc j) y z at h =
    ⊎_elim (λ r. inl (ap suc r.0, r.1)) (λ r. inr ((λ e. r.0 (omega arith)), r.1)) (get_set w i x j y h)

replicate_le : (n j x : ℕ) → get_or (replicate n x) j 0 ≤ x
replicate_le zero j x = omega arith
replicate_le (suc n) zero x = omega arith
replicate_le (suc n) (suc j) x = replicate_le n j x

pub item-replicate_le : (n j x : ℕ) → item_or (replicate n x) j 0 ≤ x
item-replicate_le n zero x = omega arith
item-replicate_le n (suc j) x = replicate_le n j x

get_or-replicate_same : {A : Type 0} (n j : ℕ) (x : A) → get_or (replicate n x) j x ≡ x
get_or-replicate_same zero j x = refl
get_or-replicate_same (suc n) zero x = refl
get_or-replicate_same (suc n) (suc j) x = get_or-replicate_same n j x

pub item-replicate_same : {A : Type 0} (n j : ℕ) (x : A) → item_or (replicate n x) j x ≡ x
item-replicate_same n zero x = refl
item-replicate_same n (suc j) x = get_or-replicate_same n j x

get_replicate : {A : Type 0} (n i : ℕ) (x y : A) → slice_get (replicate n x) i ≡ Some y → x ≡ y
get_replicate zero i x y h = absurd (cc h)
get_replicate (suc n) zero x y h = cc h
get_replicate (suc n) (suc i) x y h = get_replicate n i x y h

pub item_of_replicate : {A : Type 0} (n i : ℕ) (x y : A) → item (replicate n x) i ≡ Some y → x ≡ y
item_of_replicate n zero x y h = absurd (cc h)
item_of_replicate n (suc i) x y h = get_replicate n i x y h
