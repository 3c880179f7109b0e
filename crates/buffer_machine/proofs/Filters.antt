-- The items of a list that pass a test.
use Rattle.std.proofs.Common.{◌≡◌, ℕ, List, [], ◌∷◌, map, refl, ap, Bool, true, false, not, ◌&&◌}
use Rattle.std.specs.Prelude.{if◌then◌else◌, filter}
use Rattle.irc_line.specs.Keys.{at_key, is_in}
use Rattle.irc_line.proofs.Booleans.{or_left_false, or_right_false}

pub filter_same : {A : Type 0} (p q : A → Bool) (xs : List A) → ((x : A) → p x ≡ q x) → filter p xs ≡ filter q xs
filter_same p q [] h = refl
filter_same p q (x ∷ xs) h = rw (h x) (ap (λ ys. if q x then x ∷ ys else ys) (filter_same p q xs h))

filter_map_by : {A B : Type 0} (f : A → B) (x : A) (xs : List A) (ys : List B) (zs : List A) (b : Bool) → ys ≡ map f zs → (if b then f x ∷ ys else ys) ≡ map f (if b then x ∷ zs else zs)
filter_map_by f x xs ys zs true e = ap (λ l. f x ∷ l) e
filter_map_by f x xs ys zs false e = e

-- a test of the results of a map
pub filter_map : {A B : Type 0} (f : A → B) (p : B → Bool) (xs : List A) → filter p (map f xs) ≡ map f (filter (λ x. p (f x)) xs)
filter_map f p [] = refl
filter_map f p (x ∷ xs) = filter_map_by f x xs (filter p (map f xs)) (filter (λ y. p (f y)) xs) (p (f x)) (filter_map f p xs)

filter_absent_by : (k c : List ℕ) (b at : Bool) (cs ds : List (List ℕ)) → at ≡ false → ds ≡ cs → (if not (at && b) then c ∷ ds else ds) ≡ c ∷ cs
filter_absent_by k c b true cs ds e f = absurd cc
filter_absent_by k c b false cs ds e f = ap (λ l. c ∷ l) f

-- no name has a key that is not in the list
pub filter_absent : (k : List ℕ) (b : Bool) (cs : List (List ℕ)) → is_in k cs ≡ false → filter (λ c. not (at_key k c && b)) cs ≡ cs
filter_absent k b [] e = refl
filter_absent k b (c ∷ cs) e =
    filter_absent_by k c b (at_key k c) cs (filter (λ d. not (at_key k d && b)) cs) (or_left_false _ (is_in k cs) e) (filter_absent k b cs (or_right_false (at_key k c) _ e))
