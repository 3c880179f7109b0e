-- Lists by place, beginnings of logs, and the numbers of the other nodes.
use Rattle.std.proofs.Common.{◌⊎◌, inl, inr, ⊎_elim, ◌≡◌, ℕ, zero, suc, ◌+◌, ◌<◌, ◌≤◌, ◌==◌, ◌||◌, ◌&&◌, Bool, true, false, List, [], ◌∷◌, ◌++◌, map, length, take, drop, set, get_or, replicate, Some, slice_get, nat_le, refl, ap, ◌∙◌, arith, take-append-drop}
use Rattle.std.proofs.lemmas.Bool.{cases_lt, cond-false}
use Rattle.std.proofs.lemmas.Bool.Decides.{nat_tests}
use Rattle.std.proofs.lemmas.List.{take_all}
use Rattle.raft_log.specs.declared.entry.Entry.{Entry}
use Rattle.raft_log.specs.Lists.{item, item_or, others, range_from, with_item, without}
use Rattle.raft_log.specs.Logs.{agrees_at, conflicts_within, last_term, merged, repair, term_at}

pub same_number : (i : ℕ) → (i == i) ≡ true
same_number i = grind (arith, nat_tests)

pub other_number : (i j : ℕ) → (i ≡ j → ⊥) → (i == j) ≡ false
other_number i j h = grind (arith, nat_tests)

get_set : {A : Type 0} (xs : List A) (i : ℕ) (x d : A) → i < length xs → get_or (set xs i x) i d ≡ x
get_set [] i x d h = absurd (omega arith)
get_set (y ∷ xs) zero x d h = refl
get_set (y ∷ xs) (suc i) x d h = get_set xs i x d (omega arith)

get_other : {A : Type 0} (xs : List A) (i j : ℕ) (x d : A) → (j ≡ i → ⊥) → get_or (set xs i x) j d ≡ get_or xs j d
get_other [] i j x d h = refl
get_other (y ∷ xs) zero zero x d h = absurd (h refl)
get_other (y ∷ xs) zero (suc j) x d h = refl
get_other (y ∷ xs) (suc i) zero x d h = refl
get_other (y ∷ xs) (suc i) (suc j) x d h = get_other xs i j x d (λ e. h (ap suc e))

-- what was written to a place, and the item at another
pub item_or_with : {A : Type 0} (xs : List A) (i : ℕ) (x d : A) → 1 ≤ i → i ≤ length xs → item_or (with_item xs i x) i d ≡ x
item_or_with xs zero x d pos h = absurd (omega arith)
item_or_with xs (suc i) x d pos h = get_set xs i x d (omega arith)

pub item_or_other : {A : Type 0} (xs : List A) (i j : ℕ) (x d : A) → (j ≡ i → ⊥) → item_or (with_item xs i x) j d ≡ item_or xs j d
item_or_other xs zero j x d h = refl
item_or_other xs (suc i) zero x d h = refl
item_or_other xs (suc i) (suc j) x d h = get_other xs i j x d (λ e. h (ap suc e))

get_replicate : {A : Type 0} (n i : ℕ) (x d : A) → i < n → get_or (replicate n x) i d ≡ x
get_replicate zero i x d h = absurd (omega arith)
get_replicate (suc n) zero x d h = refl
get_replicate (suc n) (suc i) x d h = get_replicate n i x d (omega arith)

pub item_or_replicate : {A : Type 0} (n i : ℕ) (x d : A) → 1 ≤ i → i ≤ n → item_or (replicate n x) i d ≡ x
item_or_replicate n zero x d pos h = absurd (omega arith)
item_or_replicate n (suc i) x d pos h = get_replicate n i x d (omega arith)

slice_replicate : {A : Type 0} (n i : ℕ) (x : A) → i < n → slice_get (replicate n x) i ≡ Some x
slice_replicate zero i x h = absurd (omega arith)
slice_replicate (suc n) zero x h = refl
slice_replicate (suc n) (suc i) x h = slice_replicate n i x (omega arith)

pub item_replicate : {A : Type 0} (n i : ℕ) (x : A) → 1 ≤ i → i ≤ n → item (replicate n x) i ≡ Some x
item_replicate n zero x pos h = absurd (omega arith)
item_replicate n (suc i) x pos h = slice_replicate n i x (omega arith)

-- the other nodes of node 1

none_without : (a n : ℕ) → 2 ≤ a → without 1 (range_from a n) ≡ range_from a n
none_without a zero h = refl
none_without a (suc n) h =
    let no : (a == 1) ≡ false = other_number a 1 (λ e. omega arith) in
    cond-false (a == 1) _ _ no ∙ ap (λ (l : List ℕ). a ∷ l) (none_without (suc a) n (omega arith))

pub others_of_first : (n : ℕ) → others (suc n) 1 ≡ range_from 2 n
others_of_first n = none_without 2 n (omega arith)

in_range : {A : Type 0} (f : ℕ → A) (a n k : ℕ) → k < n → slice_get (map f (range_from a n)) k ≡ Some (f (a + k))
in_range f a zero k h = absurd (omega arith)
in_range f a (suc n) zero h = let e : a ≡ a + 0 = omega arith in ap (λ (x : ℕ). Some (f x)) e
in_range f a (suc n) (suc k) h = let e : suc a + k ≡ a + suc k = omega arith in in_range f (suc a) n k (omega arith) ∙ ap (λ (x : ℕ). Some (f x)) e

-- what is made for each of them, by its place there
pub of_others : {A : Type 0} (f : ℕ → A) (size k : ℕ) → 1 ≤ k → suc k ≤ size → item (map f (others size 1)) k ≡ Some (f (suc k))
of_others f zero k pos h = absurd (omega arith)
of_others f (suc n) zero pos h = absurd (omega arith)
of_others f (suc n) (suc k) pos h =
    let e : 2 + k ≡ suc (suc k) = omega arith in
    ap (λ (l : List ℕ). slice_get (map f l) k) (others_of_first n) ∙ in_range f 2 n k (omega arith) ∙ ap (λ (x : ℕ). Some (f x)) e

or_true : (a b : Bool) → b ≡ true → (a || b) ≡ true
or_true true b e = refl
or_true false b e = e

-- a beginning of a log, and the rest of it

module _ {B : Type 0} where
  pub take_twice : (p : ℕ) (log : List (Entry B)) → take p (take p log) ≡ take p log
  take_twice zero log = refl
  take_twice (suc p) [] = refl
  take_twice (suc p) (e ∷ log) = ap (λ (l : List (Entry B)). e ∷ l) (take_twice p log)

  pub drop_taken : (p : ℕ) (log : List (Entry B)) → drop p (take p log) ≡ []
  drop_taken zero log = refl
  drop_taken (suc p) [] = refl
  drop_taken (suc p) (e ∷ log) = drop_taken p log

  none_conflicts : (es : List (Entry B)) (c : ℕ) → conflicts_within [] es c ≡ false
  none_conflicts es zero = refl
  none_conflicts es (suc c) = refl

  pub no_conflict : (p c : ℕ) (log es : List (Entry B)) → conflicts_within (drop p (take p log)) es c ≡ false
  no_conflict p c log es = ap (λ (l : List (Entry B)). conflicts_within l es c) (drop_taken p log) ∙ none_conflicts es c

  none_merged : (es : List (Entry B)) → merged [] es ≡ es
  none_merged [] = refl
  none_merged (e ∷ es) = refl

  long_taken : (p : ℕ) (log : List (Entry B)) → p ≤ length log → length (take p log) ≡ p
  long_taken zero log h = refl
  long_taken (suc p) [] h = absurd (omega arith)
  long_taken (suc p) (e ∷ log) h = ap suc (long_taken p log (omega arith))

  pub long_dropped : (p : ℕ) (log : List (Entry B)) → p ≤ length log → p + length (drop p log) ≡ length log
  long_dropped zero log h = omega arith
  long_dropped (suc p) [] h = absurd (omega arith)
  long_dropped (suc p) (e ∷ log) h = omega (arith, long_dropped p log (omega arith))

  -- a beginning of a log agrees with it where it ends
  pub agrees : (p : ℕ) (log : List (Entry B)) → p ≤ length log → agrees_at (take p log) p (term_at log p) ≡ true
  agrees p log h =
      let terms : (term_at (take p log) p == term_at log p) ≡ true =
      ap (λ (l : List (Entry B)). last_term l == term_at log p) (take_twice p log) ∙ same_number (term_at log p) in
      let long : nat_le p (length (take p log)) ≡ true = let e : length (take p log) ≡ p = long_taken p log h in grind (arith, nat_tests) in
      or_true (p == 0) _ (ap (λ (b : Bool). b && (term_at (take p log) p == term_at log p)) long ∙ terms)

  -- with the rest of it added, it is the whole log
  pub repaired : (p m : ℕ) (log : List (Entry B)) → p ≤ length log → length log ≤ p + m → repair (take p log) p (take m (drop p log)) ≡ log
  repaired p m log h few =
      let rest : length (drop p log) ≤ m = omega (arith, long_dropped p log h) in
      ap (λ (l : List (Entry B)). l ++ merged (drop p (take p log)) (take m (drop p log))) (take_twice p log)
      ∙ ap (λ (l : List (Entry B)). take p log ++ merged l (take m (drop p log))) (drop_taken p log)
      ∙ ap (λ (l : List (Entry B)). take p log ++ l) (none_merged (take m (drop p log)) ∙ take_all m (drop p log) rest)
      ∙ take-append-drop p log

  pub reach : (p m : ℕ) (log : List (Entry B)) → p ≤ length log → length log ≤ p + m → p + length (take m (drop p log)) ≡ length log
  reach p m log h few =
      let rest : length (drop p log) ≤ m = omega (arith, long_dropped p log h) in
      ap (λ (l : List (Entry B)). p + length l) (take_all m (drop p log) rest) ∙ long_dropped p log h

-- two numbers are one, or they differ
pub one_or_two : (a b : ℕ) → (a ≡ b) ⊎ (a ≡ b → ⊥)
one_or_two zero zero = inl refl
one_or_two zero (suc b) = inr (λ e. omega arith)
one_or_two (suc a) zero = inr (λ e. omega arith)
one_or_two (suc a) (suc b) = ⊎_elim (λ e. inl (ap suc e)) (λ h. inr (λ e. h (omega arith))) (one_or_two a b)

pub below_other : (i m : ℕ) → i ≤ suc m → (i ≡ suc m → ⊥) → i ≤ m
below_other i m h n = ⊎_elim (λ (lt : m < i). absurd (n (omega arith))) (λ (le : i ≤ m). le) (cases_lt m i)

-- tests that passed
pub both_true : (a b : Bool) → (a && b) ≡ true → (a ≡ true) × (b ≡ true)
both_true true b e = (refl, e)
both_true false b e = cc

pub no_way : false ≡ true → ⊥
no_way e = cc

pub same_numbers : (a b : ℕ) → (a == b) ≡ true → a ≡ b
same_numbers a b e = grind (arith, nat_tests)
