-- What an edit at the place of a key does to a list of named items.
use Rattle.std.proofs.Common.{◌≡◌, ℕ, zero, suc, ◌+◌, ◌<◌, length, arith, add-one, Bool, true, false, not, ◌||◌, if◌then◌else◌, List, [], ◌∷◌, ◌++◌, map, get_or, set, take, drop, refl, ap}
use Rattle.std.specs.Prelude.{filter, find, Some, None}
use Rattle.std.specs.List.{list_any, insert, remove}
use Rattle.irc_line.specs.Keys.{at_key, is_in}
use Rattle.irc_line.proofs.Booleans.{and_right, or_left_false, or_right_false}
use Rattle.buffer_targets.specs.Places.{IsPlace, are_different}
use Rattle.buffer_targets.proofs.Rising.{before_is_other, behind_are_others}

module _ {A : Type 0} (name : A → List ℕ) where
  -- for a key that no name has, nothing is changed, removed or found
  pub none_changed : (key : List ℕ) (f : A → A) (xs : List A) → is_in key (map name xs) ≡ false → map (λ a. if at_key key (name a) then f a else a) xs ≡ xs
  none_changed key f [] e = refl
  none_changed key f (x ∷ xs) e = rw (or_left_false (at_key key (name x)) (is_in key (map name xs)) e) (ap (λ ys. x ∷ ys) (none_changed key f xs (or_right_false (at_key key (name x)) _ e)))

  pub none_removed : (key : List ℕ) (xs : List A) → is_in key (map name xs) ≡ false → filter (λ a. not (at_key key (name a))) xs ≡ xs
  none_removed key [] e = refl
  none_removed key (x ∷ xs) e = rw (or_left_false (at_key key (name x)) (is_in key (map name xs)) e) (ap (λ ys. x ∷ ys) (none_removed key xs (or_right_false (at_key key (name x)) _ e)))

  pub none_found : (key : List ℕ) (xs : List A) → is_in key (map name xs) ≡ false → find (λ a. at_key key (name a)) xs ≡ None
  none_found key [] e = refl
  none_found key (x ∷ xs) e = rw (or_left_false (at_key key (name x)) (is_in key (map name xs)) e) (none_found key xs (or_right_false (at_key key (name x)) _ e))

  pub any_is : (key : List ℕ) (xs : List A) → list_any (λ a. at_key key (name a)) xs ≡ is_in key (map name xs)
  any_is key [] = refl
  any_is key (x ∷ xs) = ap (λ b. at_key key (name x) || b) (any_is key xs)

  -- what an edit at a key's place does
  pub changed : (key : List ℕ) (f : A → A) (xs : List A) (at : ℕ) (x : A) → are_different (map name xs) ≡ true → IsPlace key (map name xs) at → x ≡ get_or xs at x
      → set xs at (f x) ≡ map (λ a. if at_key key (name a) then f a else a) xs
  changed key f [] at x d p e = absurd p
  changed key f (y ∷ xs) zero x d p e =
      rw (p, e, none_changed key f xs (behind_are_others key (name y) (map name xs) d p)) refl
  changed key f (y ∷ xs) (suc at) x d p e =
      rw (before_is_other key (name y) (map name xs) at d p) (ap (λ ys. y ∷ ys) (changed key f xs at x (and_right _ _ d) p e))

  pub removed : (key : List ℕ) (xs : List A) (at : ℕ) → are_different (map name xs) ≡ true → IsPlace key (map name xs) at
      → remove xs at ≡ filter (λ a. not (at_key key (name a))) xs
  removed key [] at d p = absurd p
  removed key (y ∷ xs) zero d p = rw (p, none_removed key xs (behind_are_others key (name y) (map name xs) d p)) refl
  removed key (y ∷ xs) (suc at) d p =
      rw (before_is_other key (name y) (map name xs) at d p) (ap (λ ys. y ∷ ys) (removed key xs at (and_right _ _ d) p))

  pub found : (key : List ℕ) (xs : List A) (at : ℕ) (x : A) → are_different (map name xs) ≡ true → IsPlace key (map name xs) at → x ≡ get_or xs at x
      → find (λ a. at_key key (name a)) xs ≡ Some x
  found key [] at x d p e = absurd p
  found key (y ∷ xs) zero x d p e = rw (p, e) refl
  found key (y ∷ xs) (suc at) x d p e = rw (before_is_other key (name y) (map name xs) at d p) (found key xs at x (and_right _ _ d) p e)

  -- names stay under a change that keeps each of them
  pub names_stay : (f : A → A) → ((a : A) → name (f a) ≡ name a) → (xs : List A) → map name (map f xs) ≡ map name xs
  names_stay f h [] = refl
  names_stay f h (x ∷ xs) = rw (h x) (ap (λ ns. name x ∷ ns) (names_stay f h xs))

  name_stays_at : (key : List ℕ) (f : A → A) → ((a : A) → name (f a) ≡ name a) → (a : A) (b : Bool) → name (if b then f a else a) ≡ name a
  name_stays_at key f h a true = h a
  name_stays_at key f h a false = refl

  pub names_stay_at : (key : List ℕ) (f : A → A) → ((a : A) → name (f a) ≡ name a) → (xs : List A) → map name (map (λ a. if at_key key (name a) then f a else a) xs) ≡ map name xs
  names_stay_at key f h xs = names_stay (λ a. if at_key key (name a) then f a else a) (λ a. name_stays_at key f h a (at_key key (name a))) xs

  pub names-insert : (xs : List A) (at : ℕ) (x : A) → map name (insert xs at x) ≡ insert (map name xs) at (name x)
  names-insert xs zero x = refl
  names-insert [] (suc at) x = refl
  names-insert (y ∷ xs) (suc at) x = ap (λ ns. name y ∷ ns) (names-insert xs at x)

  pub names_set : (xs : List A) (at : ℕ) (x y : A) → x ≡ get_or xs at x → name y ≡ name x → map name (set xs at y) ≡ map name xs
  names_set [] at x y e h = refl
  names_set (d ∷ ds) zero x y e h = rw (h, e) refl
  names_set (d ∷ ds) (suc at) x y e h = ap (λ ns. name d ∷ ns) (names_set ds at x y e h)

map_step_suc : {A : Type 0} (f : A → A) (init : List A) (i : ℕ) (d y : A) → i < length init → y ≡ f (get_or (map f (take i init) ++ drop i init) i d)
    → set (map f (take i init) ++ drop i init) i y ≡ map f (take (suc i) init) ++ drop (suc i) init
map_step_suc f [] i d y h e = absurd (omega arith)
map_step_suc f (a ∷ rest) zero d y h e = ap (λ x. x ∷ rest) e
map_step_suc f (a ∷ rest) (suc i) d y h e = ap (λ xs. f a ∷ xs) (map_step_suc f rest i d y (omega arith) e)

-- one more element of a list that a loop changes
pub map_step : {A : Type 0} (f : A → A) (xs init : List A) (i : ℕ) (d y : A) → xs ≡ map f (take i init) ++ drop i init → i < length init → y ≡ f (get_or xs i d)
    → set xs i y ≡ map f (take (i + 1) init) ++ drop (i + 1) init
map_step f xs init i d y e h v = rw (add-one, e) (map_step_suc f init i d y h (rw e at v))
