-- The places of clients' names, which clients have one, and how much each name has seen, in a list with room for all.
use Rattle.std.proofs.Common.{◌≡◌, ℕ, zero, suc, ◌-◌, ◌≤◌, Bool, true, false, not, ◌&&◌, ◌||◌, List, [], ◌∷◌, ◌++◌, map, length, refl, sym, ap, arith, ◌∙◌, append_assoc}
use Rattle.std.specs.Prelude.{◌==◌, if◌then◌else◌, flat_map, replicate, slice_index, slice_set, Option, Some, None}
use Rattle.std.specs.List.{list_any}
use Rattle.std.proofs.lemmas.Bool.Decides.{nat_tests}
use Rattle.std.proofs.lemmas.List.{append-nil}
use Rattle.irc_line.specs.Names.{same_bytes}
use Rattle.irc_line.proofs.Booleans.{and_left, and_right, not_true, or_left_false, or_right_false, or_true}
use Rattle.irc_line.proofs.SameBytes.{same_bytes-eq, same_bytes-refl}
use Rattle.buffer_targets.specs.Targets.{counted, counted_one, fewer}
use Rattle.wire_bytes.specs.declared.origin.Origin.{Origin}
use Rattle.buffer_machine.specs.Crowd.{is_id, is_id_in}
use Rattle.buffer_machine.specs.Held.{for_each, holder, index_in}

same_sym : (a b : List ℕ) (s t : Bool) → same_bytes a b ≡ s → same_bytes b a ≡ t → s ≡ t
same_sym a b true t e f = sym (same_bytes-refl a) ∙ (ap (λ x. same_bytes x a) (same_bytes-eq a b e) ∙ f)
same_sym a b false true e f = sym e ∙ (ap (same_bytes a) (same_bytes-eq b a f) ∙ same_bytes-refl a)
same_sym a b false false e f = refl

-- the comparison of bytes is symmetric
pub same_bytes-sym : (a b : List ℕ) → same_bytes a b ≡ same_bytes b a
same_bytes-sym a b = same_sym a b (same_bytes a b) (same_bytes b a) refl refl

-- ---- names that are all different

-- none of these is among the ones before it
abbrev pub are_new : List (List ℕ) → List (List ℕ) → Bool
are_new front [] = true
are_new front (x ∷ xs) = not (is_id_in x front) && are_new (front ++ x ∷ []) xs

and_three : (a b c : Bool) → (a && (b && c)) ≡ ((a && b) && c)
and_three true b c = refl
and_three false b c = refl

and_one : (b : Bool) → (b && true) ≡ b
and_one true = refl
and_one false = refl

pub new_more : (front xs : List (List ℕ)) (id : List ℕ) → are_new front (xs ++ id ∷ []) ≡ (are_new front xs && not (is_id_in id (front ++ xs)))
new_more front [] id = rw append-nil (and_one (not (is_id_in id front)))
new_more front (x ∷ xs) id =
    ap (λ b. not (is_id_in x front) && b) (new_more (front ++ x ∷ []) xs id ∙ ap (λ ys. are_new (front ++ x ∷ []) xs && not (is_id_in id ys)) (append_assoc front (x ∷ []) xs))
    ∙ and_three (not (is_id_in x front)) (are_new (front ++ x ∷ []) xs) (not (is_id_in id (front ++ x ∷ xs)))

-- ---- the place of a name among these

suc_same_by : (a b : ℕ) (t : Bool) → (a == b) ≡ t → (suc a == suc b) ≡ t
suc_same_by a b true e = grind (arith, nat_tests)
suc_same_by a b false e = grind (arith, nat_tests)

first_by : (j id : List ℕ) (n : ℕ) (b : Bool) → ((if b then 0 else suc n) == 0) ≡ b
first_by j id n true = refl
first_by j id n false = grind (arith, nat_tests)

-- a name that is none of the first ones is found after them
later_by : (id j y : List ℕ) (n m : ℕ) (b : Bool) → same_bytes j y ≡ b → same_bytes id y ≡ false → (n == m) ≡ same_bytes id j → ((if b then 0 else suc n) == suc m) ≡ same_bytes id j
later_by id j y n m true e f ih =
    let none : (0 == suc m) ≡ false = grind (arith, nat_tests) in
    none ∙ sym (ap (same_bytes id) (same_bytes-eq j y e) ∙ f)
later_by id j y n m false e f ih = suc_same_by n m (same_bytes id j) ih

pub index_is : (front : List (List ℕ)) (id j : List ℕ) (back : List (List ℕ)) → is_id_in id front ≡ false → (index_in j (front ++ id ∷ back) == length front) ≡ same_bytes id j
index_is [] id j back e = first_by j id (index_in j back) (same_bytes j id) ∙ same_bytes-sym j id
index_is (y ∷ front) id j back e =
    later_by id j y (index_in j (front ++ id ∷ back)) (length front) (same_bytes j y) refl (or_left_false (same_bytes id y) (is_id_in id front) e) (index_is front id j back (or_right_false (same_bytes id y) (is_id_in id front) e))

-- ---- who has a name

any_by : (front : List (List ℕ)) (id : List ℕ) (back : List (List ℕ)) (o : Origin) (hs : List (Origin × ℕ)) (b : Bool) (n : Option (List ℕ)) → is_id_in id front ≡ false → list_any (λ h. h.1 == length front) hs ≡ b
    → list_any (λ h. h.1 == length front) (holder (front ++ id ∷ back) o n ++ hs) ≡ (is_id id n || b)
any_by front id back o hs b None e ih = ih
any_by front id back o hs b (Some j) e ih = rw (index_is front id j back e, ih) refl

-- the holders of the name at a place are the clients with that name
pub any_holder : (front : List (List ℕ)) (id : List ℕ) (back : List (List ℕ)) (g : Origin → Option (List ℕ)) (os : List Origin) → is_id_in id front ≡ false
    → list_any (λ h. h.1 == length front) (flat_map (λ o. holder (front ++ id ∷ back) o (g o)) os) ≡ list_any (λ o. is_id id (g o)) os
any_holder front id back g [] e = refl
any_holder front id back g (o ∷ os) e = any_by front id back o (flat_map (λ p. holder (front ++ id ∷ back) p (g p)) os) (list_any (λ p. is_id id (g p)) os) (g o) e (any_holder front id back g os e)

-- ---- a number for each name

pub for_same : (f g : List ℕ → ℕ) → ((id : List ℕ) → f id ≡ g id) → (n : ℕ) (ids : List (List ℕ)) → for_each f n ids ≡ for_each g n ids
for_same f g h zero ids = refl
for_same f g h (suc n) [] = ap (λ xs. 0 ∷ xs) (for_same f g h n [])
for_same f g h (suc n) (id ∷ ids) = ap (λ y. y ∷ for_each f n ids) (h id) ∙ ap (λ xs. g id ∷ xs) (for_same f g h n ids)

for_nobody : (f g : List ℕ → ℕ) (n : ℕ) → for_each f n [] ≡ for_each g n []
for_nobody f g zero = refl
for_nobody f g (suc n) = ap (λ xs. 0 ∷ xs) (for_nobody f g n)

pub for_zero : (f : List ℕ → ℕ) → ((id : List ℕ) → f id ≡ 0) → (n : ℕ) (ids : List (List ℕ)) → for_each f n ids ≡ replicate n 0
for_zero f h zero ids = refl
for_zero f h (suc n) [] = ap (λ xs. 0 ∷ xs) (for_zero f h n [])
for_zero f h (suc n) (id ∷ ids) = ap (λ y. y ∷ for_each f n ids) (h id) ∙ ap (λ xs. 0 ∷ xs) (for_zero f h n ids)

-- one more name, whose number is 0
pub for_more : (f : List ℕ → ℕ) (id : List ℕ) → f id ≡ 0 → (n : ℕ) (ids : List (List ℕ)) → for_each f n (ids ++ id ∷ []) ≡ for_each f n ids
for_more f id e zero ids = refl
for_more f id e (suc n) [] = ap (λ y. y ∷ for_each f n []) e
for_more f id e (suc n) (x ∷ xs) = ap (λ ys. f x ∷ ys) (for_more f id e n xs)

pub for_fewer : (f : List ℕ → ℕ) (gone n : ℕ) (ids : List (List ℕ)) → fewer gone (for_each f n ids) ≡ for_each (λ id. f id - gone) n ids
for_fewer f gone zero ids = refl
for_fewer f gone (suc n) [] =
    let none : 0 - gone ≡ 0 = omega arith in
    ap (λ y. y ∷ fewer gone (for_each f n [])) none ∙ ap (λ xs. 0 ∷ xs) (for_fewer f gone n [])
for_fewer f gone (suc n) (id ∷ ids) = ap (λ xs. (f id - gone) ∷ xs) (for_fewer f gone n ids)

-- the number at a name's place is that of the name
at_by : (f : List ℕ → ℕ) (id x : List ℕ) (n : ℕ) (xs : List (List ℕ)) (b : Bool) → same_bytes id x ≡ b → (b || is_id_in id xs) ≡ true → (is_id_in id xs ≡ true → slice_index (for_each f n xs) (index_in id xs) ≡ f id)
    → slice_index (f x ∷ for_each f n xs) (if b then 0 else suc (index_in id xs)) ≡ f id
at_by f id x n xs true e i ih = ap f (sym (same_bytes-eq id x e))
at_by f id x n xs false e i ih = ih i

pub for_known : (f : List ℕ → ℕ) (id : List ℕ) (n : ℕ) (ids : List (List ℕ)) → length ids ≤ n → is_id_in id ids ≡ true → slice_index (for_each f n ids) (index_in id ids) ≡ f id
for_known f id n [] h e = cc
for_known f id zero (x ∷ xs) h e = absurd (omega (arith, h))
for_known f id (suc n) (x ∷ xs) h e = at_by f id x n xs (same_bytes id x) refl e (λ i. for_known f id n xs (omega (arith, h)) i)

new_by : (f : List ℕ → ℕ) (id x : List ℕ) (n : ℕ) (xs : List (List ℕ)) (b : Bool) → (b || is_id_in id xs) ≡ false → (is_id_in id xs ≡ false → slice_index (for_each f n xs) (index_in id xs) ≡ 0)
    → slice_index (f x ∷ for_each f n xs) (if b then 0 else suc (index_in id xs)) ≡ 0
new_by f id x n xs true i ih = cc
new_by f id x n xs false i ih = ih i

pub for_unknown : (f : List ℕ → ℕ) (id : List ℕ) (n : ℕ) (ids : List (List ℕ)) → is_id_in id ids ≡ false → slice_index (for_each f n ids) (index_in id ids) ≡ 0
for_unknown f id zero [] e = refl
for_unknown f id (suc n) [] e = refl
for_unknown f id zero (x ∷ xs) e = refl
for_unknown f id (suc n) (x ∷ xs) e = new_by f id x n xs (same_bytes id x) e (for_unknown f id n xs)

-- ---- how it is counted

count_one : (all gone : ℕ) (b : Bool) (n : ℕ) → counted_one all gone (Some b) n ≡ (if b then all else n - gone)
count_one all gone true n = refl
count_one all gone false n = refl

-- for the readers who are here, one for each name
pub counted_here : (p : List ℕ → Bool) (f : List ℕ → ℕ) (all gone n : ℕ) (ids : List (List ℕ)) → counted all gone (map p ids) (for_each f n ids) ≡ for_each (λ id. if p id then all else f id - gone) n ids
counted_here p f all gone n [] = for_nobody f (λ id. if p id then all else f id - gone) n
counted_here p f all gone zero (id ∷ ids) = refl
counted_here p f all gone (suc n) (id ∷ ids) =
    ap (λ y. y ∷ counted all gone (map p ids) (for_each f n ids)) (count_one all gone (p id) (f id)) ∙ ap (λ xs. (if p id then all else f id - gone) ∷ xs) (counted_here p f all gone n ids)

none_more : (f g : List ℕ → ℕ) (all gone n : ℕ) → counted all gone (replicate n false) (for_each f n []) ≡ for_each g n []
none_more f g all gone zero = refl
none_more f g all gone (suc n) =
    let none : 0 - gone ≡ 0 = omega arith in
    ap (λ y. y ∷ counted all gone (replicate n false) (for_each f n [])) none ∙ ap (λ xs. 0 ∷ xs) (none_more f g all gone n)

other_by : (given x : List ℕ) (front : List (List ℕ)) (b : Bool) → same_bytes given x ≡ b → is_id_in given front ≡ true → is_id_in x front ≡ false → b ≡ false
other_by given x front true e i n = absurd (let both : true ≡ false = sym i ∙ (ap (λ y. is_id_in y front) (same_bytes-eq given x e) ∙ n) in cc)
other_by given x front false e i n = refl

or_then : (b c d : Bool) → (b || c) ≡ true → (c ≡ true → d ≡ true) → (b || d) ≡ true
or_then true c d e h = refl
or_then false c d e h = h e

in_front : (given : List ℕ) (front more : List (List ℕ)) → is_id_in given front ≡ true → is_id_in given (front ++ more) ≡ true
in_front given [] more e = cc
in_front given (y ∷ front) more e = or_then (same_bytes given y) (is_id_in given front) (is_id_in given (front ++ more)) e (in_front given front more)

in_last : (given x : List ℕ) (front : List (List ℕ)) → same_bytes given x ≡ true → is_id_in given (front ++ x ∷ []) ≡ true
in_last given x [] e = rw e refl
in_last given x (y ∷ front) e = or_then (same_bytes given y) true (is_id_in given (front ++ x ∷ [])) (or_true (same_bytes given y)) (λ t. in_last given x front e)

-- the places after the reader's
behind : (given : List ℕ) (front : List (List ℕ)) (f : List ℕ → ℕ) (all gone n : ℕ) (ids : List (List ℕ)) → is_id_in given front ≡ true → are_new front ids ≡ true
    → counted all gone (replicate n false) (for_each f n ids) ≡ for_each (λ id. if same_bytes given id then all else f id - gone) n ids
behind given front f all gone n [] i e = none_more f (λ id. if same_bytes given id then all else f id - gone) all gone n
behind given front f all gone zero (x ∷ xs) i e = refl
behind given front f all gone (suc n) (x ∷ xs) i e =
    let other : same_bytes given x ≡ false = other_by given x front (same_bytes given x) refl i (not_true (is_id_in x front) (and_left (not (is_id_in x front)) (are_new (front ++ x ∷ []) xs) e)) in
    ap (λ ys. (f x - gone) ∷ ys) (behind given (front ++ x ∷ []) f all gone n xs (in_front given front (x ∷ []) i) (and_right (not (is_id_in x front)) (are_new (front ++ x ∷ []) xs) e))
    ∙ ap (λ b. (if b then all else f x - gone) ∷ for_each (λ id. if same_bytes given id then all else f id - gone) n xs) (sym other)

reader_by : (given x : List ℕ) (front : List (List ℕ)) (f : List ℕ → ℕ) (all gone n : ℕ) (xs : List (List ℕ)) (b : Bool) → same_bytes given x ≡ b → (b || is_id_in given xs) ≡ true → are_new (front ++ x ∷ []) xs ≡ true
    → (is_id_in given xs ≡ true → counted all gone (slice_set (replicate n false) (index_in given xs) true) (for_each f n xs) ≡ for_each (λ id. if same_bytes given id then all else f id - gone) n xs)
    → counted all gone (slice_set (false ∷ replicate n false) (if b then 0 else suc (index_in given xs)) true) (f x ∷ for_each f n xs) ≡ (if b then all else f x - gone) ∷ for_each (λ id. if same_bytes given id then all else f id - gone) n xs
reader_by given x front f all gone n xs true e i new ih = ap (λ ys. all ∷ ys) (behind given (front ++ x ∷ []) f all gone n xs (in_last given x front e) new)
reader_by given x front f all gone n xs false e i new ih = ap (λ ys. (f x - gone) ∷ ys) (ih i)

-- for one reader alone
pub counted_reader : (given : List ℕ) (front : List (List ℕ)) (f : List ℕ → ℕ) (all gone n : ℕ) (ids : List (List ℕ)) → is_id_in given ids ≡ true → are_new front ids ≡ true
    → counted all gone (slice_set (replicate n false) (index_in given ids) true) (for_each f n ids) ≡ for_each (λ id. if same_bytes given id then all else f id - gone) n ids
counted_reader given front f all gone n [] i e = cc
counted_reader given front f all gone zero (x ∷ xs) i e = reader_none (slice_set (replicate 0 false) (index_in given (x ∷ xs)) true)
  where
    reader_none : (bs : List Bool) → counted all gone bs [] ≡ []
    reader_none [] = refl
    reader_none (b ∷ bs) = refl
counted_reader given front f all gone (suc n) (x ∷ xs) i e =
    reader_by given x front f all gone n xs (same_bytes given x) refl i (and_right (not (is_id_in x front)) (are_new (front ++ x ∷ []) xs) e)
    (λ j. counted_reader given (front ++ x ∷ []) f all gone n xs j (and_right (not (is_id_in x front)) (are_new (front ++ x ∷ []) xs) e))
