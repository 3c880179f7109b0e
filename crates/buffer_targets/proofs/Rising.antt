-- Names that rise, and places and gaps among them.
use Rattle.std.proofs.Common.{◌≡◌, ℕ, zero, suc, Bool, true, false, if◌then◌else◌, List, [], ◌∷◌, map, refl, sym, ◌∙◌, subst}
use Rattle.std.specs.Prelude.{filter}
use Rattle.std.specs.List.{list_all, insert}
use Rattle.irc_line.specs.Names.{fold_name}
use Rattle.irc_line.specs.Keys.{at_key, is_in, is_below, is_below_all, are_rising}
use Rattle.irc_line.proofs.Booleans.{and_left, and_right, and_both, not_from, not_true, false_of, or_both_false, or_second}
use Rattle.buffer_targets.specs.Places.{IsPlace, IsGap, are_different}
use Rattle.buffer_targets.proofs.Keys.{above_is_other, below_is_other, below_later}
use Rattle.irc_line.proofs.Order.{key_is}

-- names above a key do not have it
pub none_above : (key : List ℕ) (ns : List (List ℕ)) → list_all (λ n. is_below key (fold_name n)) ns ≡ true → is_in key ns ≡ false
none_above key [] e = refl
none_above key (n ∷ ns) e = or_both_false _ _ (above_is_other key n (and_left _ _ e)) (none_above key ns (and_right _ _ e))

-- a key that has a gap belongs to no name
pub none_at_gap : (key : List ℕ) (ns : List (List ℕ)) (at : ℕ) → IsGap key ns at → is_in key ns ≡ false
none_at_gap key ns zero g = none_above key ns g
none_at_gap key [] (suc at) g = absurd g
none_at_gap key (n ∷ ns) (suc at) g = or_both_false _ _ (below_is_other key n g.0) (none_at_gap key ns at g.1)

-- a key that has a place belongs to some name
pub some_at_place : (key : List ℕ) (ns : List (List ℕ)) (at : ℕ) → IsPlace key ns at → is_in key ns ≡ true
some_at_place key [] at p = absurd p
some_at_place key (n ∷ ns) zero p = rw p refl
some_at_place key (n ∷ ns) (suc at) p = or_second (at_key key n) _ (some_at_place key ns at p)

-- names that rise have different keys
pub rising_are_different : (ns : List (List ℕ)) → are_rising ns ≡ true → are_different ns ≡ true
rising_are_different [] r = refl
rising_are_different (n ∷ ns) r =
    and_both _ _ (not_from _ (none_above (fold_name n) ns (below_later n ns r))) (rising_are_different ns (and_right _ _ r))

-- where names have different keys, the ones before a key's place do not have the key
pub before_is_other : (key n : List ℕ) (ns : List (List ℕ)) (at : ℕ) → are_different (n ∷ ns) ≡ true → IsPlace key ns at → at_key key n ≡ false
before_is_other key n ns at d p =
    false_of _ (λ h. sym (not_true _ (and_left _ _ d)) ∙ subst (λ k. is_in k ns ≡ true) (key_is key n h) (some_at_place key ns at p))

-- and neither do the ones after it
pub behind_are_others : (key n : List ℕ) (ns : List (List ℕ)) → are_different (n ∷ ns) ≡ true → at_key key n ≡ true → is_in key ns ≡ false
behind_are_others key n ns d h = subst (λ k. is_in k ns ≡ false) (sym (key_is key n h)) (not_true _ (and_left _ _ d))

-- what is above a key
pub front_rises : (n : List ℕ) (ns : List (List ℕ)) → list_all (λ m. is_below (fold_name n) (fold_name m)) ns ≡ true → is_below_all n ns ≡ true
front_rises n [] e = refl
front_rises n (m ∷ ns) e = and_left _ _ e

-- a name inserted at its key's gap
insert_below : (n m : List ℕ) (ns : List (List ℕ)) (at : ℕ) → is_below (fold_name n) (fold_name m) ≡ true → is_below_all n ns ≡ true → is_below_all n (insert ns at m) ≡ true
insert_below n m ns zero e b = e
insert_below n m [] (suc at) e b = e
insert_below n m (k ∷ ns) (suc at) e b = b

pub rising-insert : (n : List ℕ) (ns : List (List ℕ)) (at : ℕ) → IsGap (fold_name n) ns at → are_rising ns ≡ true → are_rising (insert ns at n) ≡ true
rising-insert n ns zero g r = and_both _ _ (front_rises n ns g) r
rising-insert n [] (suc at) g r = absurd g
rising-insert n (m ∷ ns) (suc at) g r =
    and_both _ _ (insert_below m n ns at g.0 (and_left _ _ r)) (rising-insert n ns at g.1 (and_right _ _ r))

module _ {A : Type 0} (name : A → List ℕ) (p : A → Bool) where
  filtered_above_by : (key : List ℕ) (x : A) (ys : List A) (b : Bool) → p x ≡ b → list_all (λ m. is_below key (fold_name m)) (map name ys) ≡ true
      → is_below key (fold_name (name x)) ≡ true → list_all (λ m. is_below key (fold_name m)) (map name (if b then x ∷ ys else ys)) ≡ true
  filtered_above_by key x ys true e h k = and_both _ _ k h
  filtered_above_by key x ys false e h k = h

  filtered_above : (key : List ℕ) (xs : List A) → list_all (λ m. is_below key (fold_name m)) (map name xs) ≡ true → list_all (λ m. is_below key (fold_name m)) (map name (filter p xs)) ≡ true
  filtered_above key [] h = refl
  filtered_above key (x ∷ xs) h = filtered_above_by key x (filter p xs) (p x) refl (filtered_above key xs (and_right _ _ h)) (and_left _ _ h)

  rising-filter_by : (x : A) (xs : List A) (b : Bool) → p x ≡ b → are_rising (map name (x ∷ xs)) ≡ true → are_rising (map name (filter p xs)) ≡ true → are_rising (map name (filter p (x ∷ xs))) ≡ true
  rising-filter_by x xs true e r h =
      rw e (and_both _ _ (front_rises (name x) _ (filtered_above (fold_name (name x)) xs (below_later (name x) (map name xs) r))) h)
  rising-filter_by x xs false e r h = rw e h

  -- what remains of rising names rises
  pub rising-filter : (xs : List A) → are_rising (map name xs) ≡ true → are_rising (map name (filter p xs)) ≡ true
  rising-filter [] r = refl
  rising-filter (x ∷ xs) r = rising-filter_by x xs (p x) refl r (rising-filter xs (and_right _ _ r))
