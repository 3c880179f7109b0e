-- Lists of names: what is in them, and their order.
use Rattle.std.proofs.Common.{◌≡◌, ℕ, zero, suc, ◌-◌, ◌≤◌, Bool, true, false, not, ◌&&◌, ◌||◌, List, [], ◌∷◌, ◌++◌, drop, length, refl, sym, ap, ◌∙◌, arith, length-drop, length-append}
use Rattle.std.specs.Prelude.{◌==◌, nat_lt, if◌then◌else◌, Option, Some, None, filter, find}
use Rattle.std.specs.List.{list_all}
use Rattle.std.proofs.lemmas.Bool.Decides.{nat_tests}
use Rattle.irc_line.specs.Names.{fold_name, same_bytes}
use Rattle.irc_line.specs.Keys.{at_key, is_in, is_below, is_below_all, are_rising, put_in}
use Rattle.irc_line.proofs.Booleans.{and_left, and_right, and_both, and_false, not_true, or_left_false, or_right_false, or_true}
use Rattle.irc_line.proofs.Order.{own_key, in-own, key_is}
use Rattle.buffer_targets.specs.Targets.{newest}
use Rattle.buffer_machine.specs.Buffers.{with_made, with_new}
use Rattle.buffer_targets.proofs.Keys.{below_later}
use Rattle.buffer_targets.proofs.Rising.{front_rises}
use Rattle.buffer_targets.specs.Places.{are_different}

-- ---- Booleans

pub or_assoc : (a b c : Bool) → (a || b || c) ≡ (a || (b || c))
or_assoc true b c = refl
or_assoc false b c = refl

or_swap : (a b c : Bool) → (a || (b || c)) ≡ (b || (a || c))
or_swap true true c = refl
or_swap true false c = refl
or_swap false b c = refl

-- ---- what is in a list of names

pub in-append : (k : List ℕ) (xs ys : List (List ℕ)) → is_in k (xs ++ ys) ≡ (is_in k xs || is_in k ys)
in-append k [] ys = refl
in-append k (c ∷ xs) ys = ap (λ b. at_key k c || b) (in-append k xs ys) ∙ sym (or_assoc (at_key k c) (is_in k xs) (is_in k ys))

in-put_by : (k c d : List ℕ) (ds : List (List ℕ)) (b : Bool) → is_in k (put_in c ds) ≡ (at_key k c || is_in k ds)
    → is_in k (if b then d ∷ put_in c ds else c ∷ d ∷ ds) ≡ (at_key k c || (at_key k d || is_in k ds))
in-put_by k c d ds true ih = ap (λ b. at_key k d || b) ih ∙ or_swap (at_key k d) (at_key k c) (is_in k ds)
in-put_by k c d ds false ih = refl

pub in-put : (k c : List ℕ) (cs : List (List ℕ)) → is_in k (put_in c cs) ≡ (at_key k c || is_in k cs)
in-put k c [] = refl
in-put k c (d ∷ ds) = in-put_by k c d ds (is_below (fold_name d) (fold_name c)) (in-put k c ds)

-- a name with this key is made
abbrev pub is_made_at : List ℕ → Option (List ℕ) → Bool
is_made_at k None = false
is_made_at k (Some c) = at_key k c

in_by_key : (k c : List ℕ) (cs : List (List ℕ)) (b : Bool) → at_key k c ≡ b → is_in (fold_name c) cs ≡ true → is_in k cs ≡ (b || is_in k cs)
in_by_key k c cs true e i = ap (λ key. is_in key cs) (key_is k c e) ∙ i
in_by_key k c cs false e i = refl

made_by_known : (k c : List ℕ) (cs : List (List ℕ)) (b : Bool) → is_in (fold_name c) cs ≡ b → is_in k (if b then cs else put_in c cs) ≡ (at_key k c || is_in k cs)
made_by_known k c cs true e = in_by_key k c cs (at_key k c) refl e
made_by_known k c cs false e = in-put k c cs

pub in-made : (k : List ℕ) (m : Option (List ℕ)) (cs : List (List ℕ)) → is_in k (with_made m cs) ≡ (is_made_at k m || is_in k cs)
in-made k None cs = refl
in-made k (Some c) cs = made_by_known k c cs (is_in (fold_name c) cs) refl

or_last : (a b : Bool) → (a || (b || false)) ≡ (b || a)
or_last true true = refl
or_last true false = refl
or_last false true = refl
or_last false false = refl

new_by_known : (k c : List ℕ) (cs : List (List ℕ)) (b : Bool) → is_in (fold_name c) cs ≡ b → is_in k (if b then cs else cs ++ c ∷ []) ≡ (at_key k c || is_in k cs)
new_by_known k c cs true e = in_by_key k c cs (at_key k c) refl e
new_by_known k c cs false e = in-append k cs (c ∷ []) ∙ or_last (is_in k cs) (at_key k c)

pub in-new : (k : List ℕ) (m : Option (List ℕ)) (cs : List (List ℕ)) → is_in k (with_new m cs) ≡ (is_made_at k m || is_in k cs)
in-new k None cs = refl
in-new k (Some c) cs = new_by_known k c cs (is_in (fold_name c) cs) refl

-- which names stay, where their keys are tested
in-filter_by : (p : List ℕ → Bool) (k c : List ℕ) (cs : List (List ℕ)) (b gone : Bool) → at_key k c ≡ b → p (fold_name c) ≡ gone
    → is_in k (filter (λ d. not (p (fold_name d))) cs) ≡ (is_in k cs && not (p k))
    → is_in k (if not gone then c ∷ filter (λ d. not (p (fold_name d))) cs else filter (λ d. not (p (fold_name d))) cs) ≡ ((b || is_in k cs) && not (p k))
in-filter_by p k c cs true true e f ih =
    let gone : p k ≡ true = ap p (key_is k c e) ∙ f in
    ih ∙ rw gone (and_false (is_in k cs))
in-filter_by p k c cs true false e f ih =
    let stays : p k ≡ false = ap p (key_is k c e) ∙ f in
    rw (e, stays) refl
in-filter_by p k c cs false true e f ih = ih
in-filter_by p k c cs false false e f ih = rw e ih

pub in-filter : (p : List ℕ → Bool) (k : List ℕ) (cs : List (List ℕ)) → is_in k (filter (λ d. not (p (fold_name d))) cs) ≡ (is_in k cs && not (p k))
in-filter p k [] = refl
in-filter p k (c ∷ cs) = in-filter_by p k c cs (at_key k c) (p (fold_name c)) refl refl (in-filter p k cs)

-- ---- all of them

all-filter_by : {A : Type 0} (q p : A → Bool) (x : A) (xs : List A) (b : Bool) → q x ≡ true → list_all q (filter p xs) ≡ true → list_all q (if b then x ∷ filter p xs else filter p xs) ≡ true
all-filter_by q p x xs true e ih = and_both _ _ e ih
all-filter_by q p x xs false e ih = ih

pub all-filter : {A : Type 0} (q p : A → Bool) (xs : List A) → list_all q xs ≡ true → list_all q (filter p xs) ≡ true
all-filter q p [] e = refl
all-filter q p (x ∷ xs) e = all-filter_by q p x xs (p x) (and_left (q x) _ e) (all-filter q p xs (and_right (q x) _ e))

all-put_by : (q : List ℕ → Bool) (c d : List ℕ) (ds : List (List ℕ)) (b : Bool) → q c ≡ true → list_all q (d ∷ ds) ≡ true → list_all q (put_in c ds) ≡ true
    → list_all q (if b then d ∷ put_in c ds else c ∷ d ∷ ds) ≡ true
all-put_by q c d ds true e f ih = and_both _ _ (and_left (q d) _ f) ih
all-put_by q c d ds false e f ih = and_both _ _ e f

pub all-put : (q : List ℕ → Bool) (c : List ℕ) (cs : List (List ℕ)) → q c ≡ true → list_all q cs ≡ true → list_all q (put_in c cs) ≡ true
all-put q c [] e f = and_both _ _ e refl
all-put q c (d ∷ ds) e f = all-put_by q c d ds (is_below (fold_name d) (fold_name c)) e f (all-put q c ds e (and_right (q d) _ f))

pub all-append : {A : Type 0} (q : A → Bool) (xs ys : List A) → list_all q xs ≡ true → list_all q ys ≡ true → list_all q (xs ++ ys) ≡ true
all-append q [] ys e f = f
all-append q (x ∷ xs) ys e f = and_both _ _ (and_left (q x) _ e) (all-append q xs ys (and_right (q x) _ e) f)

pub all-drop : {A : Type 0} (q : A → Bool) (n : ℕ) (xs : List A) → list_all q xs ≡ true → list_all q (drop n xs) ≡ true
all-drop q zero xs e = e
all-drop q (suc n) [] e = refl
all-drop q (suc n) (x ∷ xs) e = all-drop q n xs (and_right (q x) _ e)

-- what holds of all holds of each
pub all-at : {A : Type 0} (q : A → Bool) (front : List A) (c : A) (back : List A) → list_all q (front ++ c ∷ back) ≡ true → q c ≡ true
all-at q [] c back e = and_left _ _ e
all-at q (f ∷ front) c back e = all-at q front c back (and_right _ _ e)

-- ---- names that rise

rising-filter_by : (p : List ℕ → Bool) (c : List ℕ) (cs : List (List ℕ)) (b : Bool) → are_rising (c ∷ cs) ≡ true → are_rising (filter p cs) ≡ true
    → are_rising (if b then c ∷ filter p cs else filter p cs) ≡ true
rising-filter_by p c cs true e ih =
    and_both _ _ (front_rises c (filter p cs) (all-filter (λ d. is_below (fold_name c) (fold_name d)) p cs (below_later c cs e))) ih
rising-filter_by p c cs false e ih = ih

pub rising-filter : (p : List ℕ → Bool) (cs : List (List ℕ)) → are_rising cs ≡ true → are_rising (filter p cs) ≡ true
rising-filter p [] e = refl
rising-filter p (c ∷ cs) e = rising-filter_by p c cs (p c) e (rising-filter p cs (and_right (is_below_all c cs) _ e))

below-total_by : (x y : ℕ) (l s r : Bool) → (l ≡ false → s ≡ false → r ≡ true) → (nat_lt x y || (x == y && l)) ≡ false → (y == x && s) ≡ false → (nat_lt y x || (y == x && r)) ≡ true
below-total_by x y true s r ih e f = grind (arith, nat_tests)
below-total_by x y false true r ih e f = grind (arith, nat_tests)
below-total_by x y false false true ih e f = grind (arith, nat_tests)
below-total_by x y false false false ih e f = absurd (let t = ih refl refl in cc)

-- of two different keys, one comes before the other
below-total : (a b : List ℕ) → is_below a b ≡ false → same_bytes b a ≡ false → is_below b a ≡ true
below-total [] [] e f = cc
below-total [] (y ∷ ys) e f = cc
below-total (x ∷ xs) [] e f = refl
below-total (x ∷ xs) (y ∷ ys) e f = below-total_by x y (is_below xs ys) (same_bytes ys xs) (is_below ys xs) (λ g h. below-total xs ys g h) e f

no_key : (c d : List ℕ) → at_key (fold_name c) d ≡ false → same_bytes (fold_name c) (fold_name d) ≡ false
unfolding at_key
no_key c d e = e

rising-put_by : (c d : List ℕ) (ds : List (List ℕ)) (b : Bool) → is_below (fold_name d) (fold_name c) ≡ b → are_rising (d ∷ ds) ≡ true → at_key (fold_name c) d ≡ false
    → are_rising (put_in c ds) ≡ true → are_rising (if b then d ∷ put_in c ds else c ∷ d ∷ ds) ≡ true
rising-put_by c d ds true b e f ih =
    and_both _ _ (front_rises d (put_in c ds) (all-put (λ x. is_below (fold_name d) (fold_name x)) c ds b (below_later d ds e))) ih
rising-put_by c d ds false b e f ih = and_both _ _ (below-total (fold_name d) (fold_name c) b (no_key c d f)) e

pub rising-put : (c : List ℕ) (cs : List (List ℕ)) → are_rising cs ≡ true → is_in (fold_name c) cs ≡ false → are_rising (put_in c cs) ≡ true
rising-put c [] e f = refl
rising-put c (d ∷ ds) e f =
    rising-put_by c d ds (is_below (fold_name d) (fold_name c)) refl e (or_left_false _ _ f) (rising-put c ds (and_right (is_below_all d ds) _ e) (or_right_false (at_key (fold_name c) d) _ f))

-- ---- a name is found under its key

found_first : (f c : List ℕ) (cs : List (List ℕ)) (o : Option (List ℕ)) → at_key (fold_name c) f ≡ false → (if at_key (fold_name c) f then Some f else o) ≡ o
found_first f c cs o e = rw e refl

not_in_key : (k f : List ℕ) (cs : List (List ℕ)) (b : Bool) → at_key k f ≡ b → is_in k cs ≡ true → is_in (fold_name f) cs ≡ false → b ≡ false
not_in_key k f cs true e i n = sym i ∙ (ap (λ key. is_in key cs) (key_is k f e) ∙ n)
not_in_key k f cs false e i n = refl

pub find-different : (front : List (List ℕ)) (c : List ℕ) (back : List (List ℕ)) → are_different (front ++ c ∷ back) ≡ true → find (at_key (fold_name c)) (front ++ c ∷ back) ≡ Some c
find-different [] c back e = rw (own_key c) refl
find-different (f ∷ front) c back e =
    found_first f c (front ++ c ∷ back) (find (at_key (fold_name c)) (front ++ c ∷ back)) (not_in_key (fold_name c) f (front ++ c ∷ back) (at_key (fold_name c) f) refl (in-own front c back) (not_true _ (and_left _ _ e)))
    ∙ find-different front c back (and_right (not (is_in (fold_name f) (front ++ c ∷ back))) _ e)

find-append_by : (k c : List ℕ) (xs ys : List (List ℕ)) (b : Bool) → find (at_key k) (xs ++ ys) ≡ (if is_in k xs then find (at_key k) xs else find (at_key k) ys)
    → (if b then Some c else find (at_key k) (xs ++ ys)) ≡ (if b || is_in k xs then (if b then Some c else find (at_key k) xs) else find (at_key k) ys)
find-append_by k c xs ys true ih = refl
find-append_by k c xs ys false ih = ih

pub find-append : (k : List ℕ) (xs ys : List (List ℕ)) → find (at_key k) (xs ++ ys) ≡ (if is_in k xs then find (at_key k) xs else find (at_key k) ys)
find-append k [] ys = refl
find-append k (c ∷ xs) ys = find-append_by k c xs ys (at_key k c) (find-append k xs ys)

-- ---- the newest

pub newest-all : {A : Type 0} (n : ℕ) (xs : List A) → length xs ≤ n → newest n xs ≡ xs
newest-all n xs h = let e : length xs - n ≡ 0 = omega arith in rw e refl

pub newest-length : {A : Type 0} (n : ℕ) (xs : List A) → length (newest n xs) ≤ n
newest-length n xs = rw length-drop (omega arith)

in_drop : (k q : List ℕ) (n : ℕ) (cs : List (List ℕ)) → at_key k q ≡ true → n ≤ length cs → is_in k (drop n (cs ++ q ∷ [])) ≡ true
in_drop k q zero cs e h = in-append k cs (q ∷ []) ∙ (ap (λ b. is_in k cs || (b || false)) e ∙ or_true (is_in k cs))
in_drop k q (suc n) [] e h = absurd (omega arith)
in_drop k q (suc n) (c ∷ cs) e h = in_drop k q n cs e (omega arith)

-- the last is among the newest
pub newest-last : (k q : List ℕ) (n : ℕ) (cs : List (List ℕ)) → 1 ≤ n → at_key k q ≡ true → is_in k (newest n (cs ++ q ∷ [])) ≡ true
newest-last k q n cs h e =
    let long = length-append cs (q ∷ []) in
    in_drop k q (length (cs ++ q ∷ []) - n) cs e (omega arith)
