-- What a binary search by key finds among names that rise.
use Rattle.std.proofs.Common.{◌≡◌, ℕ, zero, suc, ◌<◌, ◌≤◌, true, List, [], ◌∷◌, length, map, get_or, Ordering, Less, Equal, Greater, Result, Ok, Err, refl, sym, ◌∙◌, arith}
use Rattle.std.specs.List.{list_all}
use Rattle.std.specs.List.Sorted.{IsBinarySearchResult, IsSearchInRange, IsNonDecreasingBy, IsSortedBy}
use Rattle.std.specs.Ordering.{nat_cmp, is_lt, ordering_index}
use Rattle.std.specs.Cmp.Lexicographic.{slice_cmp}
use Rattle.std.specs.Result.{MatchResult}
use Rattle.std.proofs.lemmas.Cmp.{nat_list_cmp_total}
use Rattle.std.proofs.lemmas.List.Sorted.{searchable_from_sorted}
use native.Mathlib.Numerals.{unary_clauses}
use Rattle.irc_line.specs.Names.{fold_name}
use Rattle.irc_line.specs.Keys.{is_below, are_rising}
use Rattle.irc_line.proofs.Booleans.{and_left, and_right, and_both}
use Rattle.irc_line.proofs.Order.{below-asym}
use Rattle.buffer_targets.specs.Places.{IsPlace, IsGap}
use Rattle.buffer_targets.proofs.Keys.{less_is_below, below_of_less, above_of_greater, key_of_equal}

module _ {A : Type 0} (name : A → List ℕ) where
  abbrev compared : List ℕ → A → Ordering
  compared key a = slice_cmp nat_cmp (fold_name (name a)) key

  sorted : (xs : List A) → are_rising (map name xs) ≡ true → IsSortedBy (λ a b. is_lt (slice_cmp nat_cmp (fold_name (name a)) (fold_name (name b)))) xs
  sorted [] r k d low high = absurd (omega arith)
  sorted (x ∷ []) r k d low high = absurd (omega arith)
  sorted (x ∷ y ∷ xs) r zero d low high = less_is_below (fold_name (name y)) (fold_name (name x)) _ refl ∙ below-asym (fold_name (name x)) (fold_name (name y)) (and_left _ _ r)
  sorted (x ∷ y ∷ xs) r (suc k) d low high = let h = sorted (y ∷ xs) (and_right _ _ r) k d (omega arith) (omega arith) in simp unary_clauses (simp unary_clauses at h)

  non_decreasing : (key : List ℕ) (xs : List A) → are_rising (map name xs) ≡ true → IsNonDecreasingBy (λ a. ordering_index (compared key a)) xs
  non_decreasing key xs r = searchable_from_sorted nat_list_cmp_total (λ a. fold_name (name a)) xs key (sorted xs r)

  -- a search's closure gives the comparisons
  abbrev pub Compares : (A → Ordering) → List ℕ → List A → Type 0
  Compares ord key xs = (k : ℕ) (d : A) → k < length xs → ord (get_or xs k d) ≡ compared key (get_or xs k d)

  place_from : (key : List ℕ) (xs : List A) (at : ℕ) → at < length xs → ((d : A) → compared key (get_or xs at d) ≡ Equal) → IsPlace key (map name xs) at
  place_from key [] at h e = absurd (omega arith)
  place_from key (x ∷ xs) zero h e = key_of_equal (name x) key (e x)
  place_from key (x ∷ xs) (suc at) h e = place_from key xs at (omega arith) e

  all_above : (key : List ℕ) (xs : List A) → ((k : ℕ) (d : A) → k < length xs → compared key (get_or xs k d) ≡ Greater) → list_all (λ n. is_below key (fold_name n)) (map name xs) ≡ true
  all_above key [] h = refl
  all_above key (x ∷ xs) h = and_both _ _ (above_of_greater (fold_name (name x)) key (h 0 x (omega arith))) (all_above key xs (λ k d l. h (suc k) d (omega arith)))

  gap_from : (key : List ℕ) (xs : List A) (at : ℕ) → at ≤ length xs → ((k : ℕ) (d : A) → k < at → compared key (get_or xs k d) ≡ Less)
      → ((k : ℕ) (d : A) → at ≤ k → k < length xs → compared key (get_or xs k d) ≡ Greater) → IsGap key (map name xs) at
  gap_from key xs zero h low high = all_above key xs (λ k d l. high k d (omega arith) l)
  gap_from key [] (suc at) h low high = absurd (omega arith)
  gap_from key (x ∷ xs) (suc at) h low high =
      (below_of_less (fold_name (name x)) key (low 0 x (omega arith)), gap_from key xs at (omega arith) (λ k d l. low (suc k) d (omega arith)) (λ k d l m. high (suc k) d (omega arith) (omega arith)))

  agreed : (ord : A → Ordering) (key : List ℕ) (xs : List A) → Compares ord key xs → are_rising (map name xs) ≡ true → IsNonDecreasingBy (λ a. ordering_index (ord a)) xs
  agreed ord key xs c r i j d le h =
      rw (c i d (omega arith), c j d h) (non_decreasing key xs r i j d le h)

  -- a binary search ends at the key, or at the gap for it
  pub searched : (ord : A → Ordering) (key : List ℕ) (xs : List A) → Compares ord key xs → are_rising (map name xs) ≡ true
      → (found : Result ℕ ℕ) → IsSearchInRange found (length xs) → IsBinarySearchResult ord xs found
      → MatchResult found (IsPlace key (map name xs)) (IsGap key (map name xs))
  searched ord key xs c r (Ok at) h equal = place_from key xs at h (λ d. sym (c at d h) ∙ equal d)
  searched ord key xs c r (Err at) h parted =
      let parts = parted (agreed ord key xs c r) in
      gap_from key xs at h (λ k d l. sym (c k d (omega arith)) ∙ parts.0 k d (omega arith) l) (λ k d l m. sym (c k d m) ∙ parts.1 k d l m)
