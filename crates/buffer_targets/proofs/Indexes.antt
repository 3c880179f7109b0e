-- The places of names, in rising order of the names' keys.
use Rattle.std.proofs.Common.{◌≡◌, ℕ, zero, suc, ◌+◌, ◌-◌, ◌<◌, ◌≤◌, Bool, true, false, if◌then◌else◌, List, [], ◌∷◌, ◌++◌, map, get_or, take, drop, length, Result, refl, sym, ap, ◌∙◌, subst, arith}
use Rattle.std.specs.Prelude.{◌==◌, filter, nat_lt, nat_le}
use Rattle.std.specs.List.{list_all, list_any, insert}
use Rattle.std.specs.List.Sorted.{IsBinarySearchResult, IsSearchInRange}
use Rattle.std.specs.Result.{MatchResult}
use Rattle.std.proofs.lemmas.Bool.Decides.{nat_tests}
use Rattle.std.proofs.lemmas.List.{get_or_append_left, get_or_push, get_or-drop, length-drop, length_push}
use Rattle.irc_line.specs.Names.{fold_name}
use Rattle.irc_line.specs.Keys.{at_key, is_in}
use Rattle.irc_line.proofs.Booleans.{and_left, and_right, and_both, not_from, not_true, or_both_false, or_first, or_left_false, or_right_false, or_second}
use Rattle.irc_line.proofs.Order.{cases_of_or, at_key-sym}
use Rattle.buffer_targets.specs.Places.{IsPlace, IsGap, IsIndex, are_different, names_at, compared_at, lowered}
use Rattle.buffer_targets.proofs.Rising.{none_at_gap, rising-insert, rising-filter}
use Rattle.buffer_targets.proofs.Edits.{names-insert}
use Rattle.buffer_targets.proofs.Search.{searched}
use Rattle.irc_line.proofs.Numbers.{eq_of, gt_of, le_of, lt_of, of_eq, of_lt}

abbrev name_at : List (List ℕ) → ℕ → List ℕ
name_at names i = get_or names i []

-- what a search of the index finds

all_at : (p : ℕ → Bool) (xs : List ℕ) (k d : ℕ) → list_all p xs ≡ true → k < length xs → p (get_or xs k d) ≡ true
all_at p [] k d e h = absurd (omega arith)
all_at p (x ∷ xs) zero d e h = and_left _ _ e
all_at p (x ∷ xs) (suc k) d e h = all_at p xs k d (and_right _ _ e) (omega arith)

-- places that are lowered by a number are at least that number
pub lowers : (by : ℕ) (xs init : List ℕ) (k d : ℕ) → xs ≡ map (λ i. i - by) (take k init) ++ drop k init → k < length init → list_all (λ i. nat_le by i) init ≡ true → by ≤ get_or xs k d
lowers by xs init k d e h all =
    rw e (lowers_by init k d h all)
  where
    lowers_by : (init : List ℕ) (k d : ℕ) → k < length init → list_all (λ i. nat_le by i) init ≡ true → by ≤ get_or (map (λ i. i - by) (take k init) ++ drop k init) k d
    lowers_by [] k d h all = absurd (omega arith)
    lowers_by (x ∷ init) zero d h all = le_of by x (and_left _ _ all)
    lowers_by (x ∷ init) (suc k) d h all = lowers_by init k d (omega arith) (and_right _ _ all)

kept_by : (by x : ℕ) (xs : List ℕ) (b : Bool) → nat_le by x ≡ b → list_all (λ i. nat_le by i) xs ≡ true → list_all (λ i. nat_le by i) (if b then x ∷ xs else xs) ≡ true
kept_by by x xs true e h = and_both _ _ e h
kept_by by x xs false e h = h

pub kept_are_above : (by : ℕ) (xs : List ℕ) → list_all (λ i. nat_le by i) (filter (λ i. nat_le by i) xs) ≡ true
kept_are_above by [] = refl
kept_are_above by (x ∷ xs) = kept_by by x (filter (λ i. nat_le by i) xs) (nat_le by x) refl (kept_are_above by xs)

pub index_searched : (key : List ℕ) (names : List (List ℕ)) (places : List ℕ) → IsIndex names places → (r : Result ℕ ℕ) → IsSearchInRange r (length places)
    → IsBinarySearchResult (compared_at names key) places r → MatchResult r (IsPlace key (names_at names places)) (IsGap key (names_at names places))
index_searched key names places index r bound result =
    searched (name_at names) (compared_at names key) key places (λ k d h. rw (all_at (λ i. nat_lt i (length names)) places k d index.in_range h) refl) index.rising r bound result

place_of : (key : List ℕ) (names : List (List ℕ)) (i : ℕ) → i < length names → at_key key (name_at names i) ≡ true → IsPlace key names i
place_of key [] i h e = absurd (omega arith)
place_of key (n ∷ ns) zero h e = e
place_of key (n ∷ ns) (suc i) h e = place_of key ns i (omega arith) e

pub record IsFound (key : List ℕ) (names : List (List ℕ)) (i : ℕ) : Type 0 where
  pub in_range : i < length names
  pub place : IsPlace key names i

found_by : (key : List ℕ) (names : List (List ℕ)) (places : List ℕ) (p x : ℕ) → list_all (λ i. nat_lt i (length names)) places ≡ true → IsPlace key (names_at names places) p → x ≡ get_or places p x → IsFound key names x
found_by key names [] p x r h e = absurd h
found_by key names (i ∷ places) zero x r h e =
    let in_range : x < length names = rw e (lt_of i (length names) (and_left _ _ r)) in
    record { in_range = in_range; place = place_of key names x in_range (rw e h) }
found_by key names (i ∷ places) (suc p) x r h e = found_by key names places p x (and_right _ _ r) h e

-- the place in the index at a key's position is that of the key's name
pub found_in_index : (key : List ℕ) (names : List (List ℕ)) (places : List ℕ) (p x : ℕ) → IsIndex names places → IsPlace key (names_at names places) p → x ≡ get_or places p x → IsFound key names x
found_in_index key names places p x index h e = found_by key names places p x index.in_range h e

none_by : (key : List ℕ) (ns : List (List ℕ)) → ((i : ℕ) → i < length ns → at_key key (name_at ns i) ≡ false) → is_in key ns ≡ false
none_by key [] h = refl
none_by key (n ∷ ns) h = or_both_false _ _ (h 0 (omega arith)) (none_by key ns (λ i l. h (suc i) (omega arith)))

none_at : (key : List ℕ) (names : List (List ℕ)) (places : List ℕ) (i : ℕ) → list_any (λ j. j == i) places ≡ true → is_in key (names_at names places) ≡ false → at_key key (name_at names i) ≡ false
none_at key names [] i h e = cc
none_at key names (j ∷ places) i h e =
    cases_of_or _ _ h
    (λ same. subst (λ k. at_key key (name_at names k) ≡ false) (eq_of j i same) (or_left_false _ _ e))
    (λ other more. none_at key names places i more (or_right_false (at_key key (name_at names j)) _ e))

-- a key that has a gap in the index belongs to no name
pub none_in_index : (key : List ℕ) (names : List (List ℕ)) (places : List ℕ) (p : ℕ) → IsIndex names places → IsGap key (names_at names places) p → is_in key names ≡ false
none_in_index key names places p index gap =
    none_by key names (λ i l. none_at key names places i (index.complete i l) (none_at_gap key (names_at names places) p gap))

-- with one more name

is_in_pushed : (key n : List ℕ) (ns : List (List ℕ)) → is_in key ns ≡ false → at_key key n ≡ false → is_in key (ns ++ n ∷ []) ≡ false
is_in_pushed key n [] e f = or_both_false _ _ f refl
is_in_pushed key n (m ∷ ns) e f = or_both_false _ _ (or_left_false _ _ e) (is_in_pushed key n ns (or_right_false (at_key key m) _ e) f)

pub different_pushed : (n : List ℕ) (ns : List (List ℕ)) → are_different ns ≡ true → is_in (fold_name n) ns ≡ false → are_different (ns ++ n ∷ []) ≡ true
different_pushed n [] d e = refl
different_pushed n (m ∷ ns) d e =
    and_both _ _
    (not_from _ (is_in_pushed (fold_name m) n ns (not_true _ (and_left _ _ d)) (at_key-sym m n ∙ or_left_false _ _ e)))
    (different_pushed n ns (and_right _ _ d) (or_right_false (at_key (fold_name n) m) _ e))

names_at_pushed : (names : List (List ℕ)) (n : List ℕ) (places : List ℕ) → list_all (λ i. nat_lt i (length names)) places ≡ true → map (name_at (names ++ n ∷ [])) places ≡ names_at names places
names_at_pushed names n [] r = refl
names_at_pushed names n (i ∷ places) r =
    rw (get_or_append_left names (n ∷ []) [] i (lt_of i (length names) (and_left _ _ r))) (ap (λ ms. name_at names i ∷ ms) (names_at_pushed names n places (and_right _ _ r)))

all_more : (m n : ℕ) (xs : List ℕ) → m ≤ n → list_all (λ i. nat_lt i m) xs ≡ true → list_all (λ i. nat_lt i n) xs ≡ true
all_more m n [] l e = refl
all_more m n (x ∷ xs) l e = and_both _ _ (of_lt x n (let h = lt_of x m (and_left _ _ e) in omega arith)) (all_more m n xs l (and_right _ _ e))

all_inserted : (p : ℕ → Bool) (xs : List ℕ) (at x : ℕ) → p x ≡ true → list_all p xs ≡ true → list_all p (insert xs at x) ≡ true
all_inserted p xs zero x h e = and_both _ _ h e
all_inserted p [] (suc at) x h e = and_both _ _ h e
all_inserted p (y ∷ xs) (suc at) x h e = and_both _ _ (and_left _ _ e) (all_inserted p xs at x h (and_right _ _ e))

any_inserted : (p : ℕ → Bool) (xs : List ℕ) (at x : ℕ) → p x ≡ true → list_any p (insert xs at x) ≡ true
any_inserted p xs zero x h = or_first _ _ h
any_inserted p [] (suc at) x h = or_first _ _ h
any_inserted p (y ∷ xs) (suc at) x h = or_second (p y) _ (any_inserted p xs at x h)

any_kept : (p : ℕ → Bool) (xs : List ℕ) (at x : ℕ) → list_any p xs ≡ true → list_any p (insert xs at x) ≡ true
any_kept p xs zero x e = or_second (p x) _ e
any_kept p [] (suc at) x e = cc
any_kept p (y ∷ xs) (suc at) x e = cases_of_or _ _ e (λ f. or_first _ _ f) (λ n r. or_second (p y) _ (any_kept p xs at x r))

module _ (names : List (List ℕ)) (places : List ℕ) (n : List ℕ) (p : ℕ) (index : IsIndex names places) (gap : IsGap (fold_name n) (names_at names places) p) where
  pushed_names : names_at (names ++ n ∷ []) (insert places p (length names)) ≡ insert (names_at names places) p n
  pushed_names =
      names-insert (name_at (names ++ n ∷ [])) places p (length names)
      ∙ ap (λ m. insert (map (name_at (names ++ n ∷ [])) places) p m) (get_or_push names n [] (length names) refl)
      ∙ ap (λ ms. insert ms p n) (names_at_pushed names n places index.in_range)

  sized : length (names ++ n ∷ []) ≡ length names + 1
  sized = length_push names n

  complete_pushed : (i : ℕ) → i < length (names ++ n ∷ []) → list_any (λ j. j == i) (insert places p (length names)) ≡ true
  complete_pushed i h = complete_by (nat_lt i (length names)) refl
    where
      complete_by : (b : Bool) → nat_lt i (length names) ≡ b → list_any (λ j. j == i) (insert places p (length names)) ≡ true
      complete_by true e = any_kept (λ j. j == i) places p (length names) (index.complete i (lt_of i (length names) e))
      complete_by false e = any_inserted (λ j. j == i) places p (length names) (let s = sized in grind (arith, nat_tests))

  -- the index with one more name
  pub index_pushed : IsIndex (names ++ n ∷ []) (insert places p (length names))
  index_pushed = record {
    different = different_pushed n names index.different (none_in_index (fold_name n) names places p index gap);
    rising = rw pushed_names (rising-insert n (names_at names places) p gap index.rising);
    in_range = all_inserted _ places p (length names) (of_lt (length names) (length (names ++ n ∷ [])) (let s = sized in omega arith)) (all_more (length names) (length (names ++ n ∷ [])) places (let s = sized in omega arith) index.in_range);
    complete = complete_pushed;
  }

-- without the first names

pub different_dropped : (k : ℕ) (ns : List (List ℕ)) → are_different ns ≡ true → are_different (drop k ns) ≡ true
different_dropped zero ns d = d
different_dropped (suc k) [] d = d
different_dropped (suc k) (n ∷ ns) d = different_dropped k ns (and_right _ _ d)

lowered_name : (k : ℕ) (names : List (List ℕ)) (i : ℕ) → k ≤ i → name_at (drop k names) (i - k) ≡ name_at names i
lowered_name k names i h = get_or-drop k names (i - k) [] ∙ ap (name_at names) {x = k + (i - k)} {y = i} (omega arith)

lowered_step : (k : ℕ) (names : List (List ℕ)) (i : ℕ) (rest : List ℕ) (b : Bool) → nat_le k i ≡ b → map (λ j. name_at (drop k names) (j - k)) rest ≡ map (name_at names) rest
    → map (λ j. name_at (drop k names) (j - k)) (if b then i ∷ rest else rest) ≡ map (name_at names) (if b then i ∷ rest else rest)
lowered_step k names i rest true e h = rw (lowered_name k names i (le_of k i e)) (ap (λ ms. name_at names i ∷ ms) h)
lowered_step k names i rest false e h = h

lowered_names_by : (k : ℕ) (names : List (List ℕ)) (places : List ℕ) → map (λ j. name_at (drop k names) (j - k)) (filter (λ i. nat_le k i) places) ≡ map (name_at names) (filter (λ i. nat_le k i) places)
lowered_names_by k names [] = refl
lowered_names_by k names (i ∷ places) = lowered_step k names i (filter (λ i. nat_le k i) places) (nat_le k i) refl (lowered_names_by k names places)

map_through : {A B C : Type 0} (f : A → B) (g : B → C) (xs : List A) → map g (map f xs) ≡ map (λ a. g (f a)) xs
map_through f g [] = refl
map_through f g (x ∷ xs) = ap (λ ys. g (f x) ∷ ys) (map_through f g xs)

lowered_in_range_step : (k n m i : ℕ) (rest : List ℕ) (b : Bool) → nat_le k i ≡ b → n - k ≡ m → nat_lt i n ≡ true → list_all (λ j. nat_lt j m) (map (λ j. j - k) rest) ≡ true
    → list_all (λ j. nat_lt j m) (map (λ j. j - k) (if b then i ∷ rest else rest)) ≡ true
lowered_in_range_step k n m i rest true e s r h =
    and_both _ _ (of_lt (i - k) m (let l = lt_of i n r in let g = le_of k i e in omega arith)) h
lowered_in_range_step k n m i rest false e s r h = h

lowered_in_range : (k n m : ℕ) (places : List ℕ) → n - k ≡ m → list_all (λ i. nat_lt i n) places ≡ true → list_all (λ j. nat_lt j m) (lowered k places) ≡ true
lowered_in_range k n m [] s r = refl
lowered_in_range k n m (i ∷ places) s r =
    lowered_in_range_step k n m i (filter (λ j. nat_le k j) places) (nat_le k i) refl s (and_left _ _ r) (lowered_in_range k n m places s (and_right _ _ r))

lowered_complete_step : (k x i : ℕ) (rest : List ℕ) (b : Bool) → nat_le k x ≡ b → (x == i + k) ≡ true → list_any (λ j. j == i) (map (λ j. j - k) (if b then x ∷ rest else rest)) ≡ true
lowered_complete_step k x i rest true e h = or_first _ _ (of_eq (x - k) i (let s = eq_of x (i + k) h in omega arith))
lowered_complete_step k x i rest false e h = absurd (let s = eq_of x (i + k) h in let l = gt_of k x e in omega arith)

lowered_complete_more : (k x i : ℕ) (rest : List ℕ) (b : Bool) → list_any (λ j. j == i) (map (λ j. j - k) rest) ≡ true → list_any (λ j. j == i) (map (λ j. j - k) (if b then x ∷ rest else rest)) ≡ true
lowered_complete_more k x i rest true h = or_second (x - k == i) _ h
lowered_complete_more k x i rest false h = h

lowered_complete : (k i : ℕ) (places : List ℕ) → list_any (λ j. j == i + k) places ≡ true → list_any (λ j. j == i) (lowered k places) ≡ true
lowered_complete k i [] h = cc
lowered_complete k i (x ∷ places) h =
    cases_of_or _ _ h
    (λ e. lowered_complete_step k x i (filter (λ j. nat_le k j) places) (nat_le k x) refl e)
    (λ n r. lowered_complete_more k x i (filter (λ j. nat_le k j) places) (nat_le k x) (lowered_complete k i places r))

-- the index without the first names
pub index_dropped : (k : ℕ) (names : List (List ℕ)) (places : List ℕ) → IsIndex names places → IsIndex (drop k names) (lowered k places)
index_dropped k names places index = record {
  different = different_dropped k names index.different;
  rising = rw (map_through (λ j. j - k) (name_at (drop k names)) (filter (λ i. nat_le k i) places), lowered_names_by k names places) (rising-filter (name_at names) (λ i. nat_le k i) places index.rising);
  in_range = lowered_in_range k (length names) (length (drop k names)) places (sym (length-drop k names)) index.in_range;
  complete = λ i h. lowered_complete k i places (index.complete (i + k) (let s = length-drop k names in omega arith));
}

-- no name
pub index_none : IsIndex [] []
index_none = record { different = refl; rising = refl; in_range = refl; complete = λ i h. absurd (omega arith) }
