-- The readers who are here, and the names of clients.
use Rattle.std.proofs.Common.{◌≡◌, ℕ, zero, suc, ◌+◌, ◌<◌, ◌≤◌, Bool, true, false, not, ◌||◌, List, [], ◌∷◌, ◌++◌, length, take, drop, set, get_or, refl, sym, ap, arith, subst, ◌∙◌}
use Rattle.std.specs.Prelude.{◌==◌, if◌then◌else◌, nat_lt, replicate, filter, Some, None}
use Rattle.std.specs.List.{list_any}
use Rattle.std.proofs.lemmas.Bool.Decides.{nat_tests}
use Rattle.irc_line.specs.Names.{same_bytes}
use Rattle.irc_line.proofs.Booleans.{and_left, and_right}
use Rattle.irc_line.proofs.SameBytes.{same_bytes-refl}
use Rattle.wire_bytes.specs.declared.origin.Origin.{Origin}
use Rattle.buffer_machine.specs.Crowd.{is_id_in, is_some_of, may_name, with_id}
use Rattle.buffer_machine.specs.Held.{index_in}
use Rattle.machine_laws.specs.Origins.{same_origin}
use Rattle.buffer_machine.specs.NameSteps.{flags, flags_from, here_from, index_of, stand_below}
use Rattle.std.proofs.Math.ListN.{drop_of_length-le}
use Rattle.std.proofs.Math.Seq.{drop-cons, take-suc}

-- the readers from one on, as many as there are names
pub flags_taken : (i n : ℕ) (holders : List (Origin × ℕ)) (ids : List (List ℕ)) → length ids ≤ n → take (length ids) (flags_from i n holders) ≡ here_from i holders ids
flags_taken i n holders [] h = refl
flags_taken i zero holders (id ∷ ids) h = absurd (omega (arith, h))
flags_taken i (suc n) holders (id ∷ ids) h = ap (λ bs. list_any (λ x. x.1 == i) holders ∷ bs) (flags_taken (suc i) n holders ids (omega (arith, h)))

-- nobody is a reader if nobody is attached
pub flags_none : (i n : ℕ) → flags_from i n [] ≡ replicate n false
flags_none i zero = refl
flags_none i (suc n) = ap (λ bs. false ∷ bs) (flags_none (suc i) n)

or_step : (a b c d : Bool) → b ≡ (c || d) → (a || b) ≡ ((a || c) || d)
or_step true b c d e = refl
or_step false b c d e = e

any_more : (i j : ℕ) (o : Origin) (holders : List (Origin × ℕ)) → list_any (λ x. x.1 == i) (holders ++ (o, j) ∷ []) ≡ (list_any (λ x. x.1 == i) holders || (j == i))
any_more i j o [] = or_none (j == i)
  where
    or_none : (b : Bool) → (b || false) ≡ b
    or_none true = refl
    or_none false = refl
any_more i j o (h ∷ hs) = or_step (h.1 == i) _ _ (j == i) (any_more i j o hs)

or_false_left : (b c : Bool) → c ≡ false → (b || c) ≡ b
or_false_left true c e = refl
or_false_left false c e = e

or_true_left : (b c : Bool) → c ≡ true → (b || c) ≡ true
or_true_left true c e = refl
or_true_left false c e = e

-- readers above a place are unchanged where one more client gets a reader below them
flags_above : (i n j : ℕ) (o : Origin) (holders : List (Origin × ℕ)) → j < i → flags_from i n (holders ++ (o, j) ∷ []) ≡ flags_from i n holders
flags_above i zero j o holders h = refl
flags_above i (suc n) j o holders h =
    let other : (j == i) ≡ false = grind (arith, nat_tests) in
    rw (any_more i j o holders, or_false_left (list_any (λ x. x.1 == i) holders) (j == i) other, flags_above (suc i) n j o holders (omega (arith, h))) refl

-- one more client with a reader
pub flags_more : (i n k : ℕ) (o : Origin) (holders : List (Origin × ℕ)) → k < n → set (flags_from i n holders) k true ≡ flags_from i n (holders ++ (o, i + k) ∷ [])
flags_more i zero k o holders h = absurd (omega (arith, h))
flags_more i (suc n) zero o holders h =
    let here : (i + 0 == i) ≡ true = grind (arith, nat_tests) in
    let below : i + 0 < suc i = omega arith in
    rw (any_more i (i + 0) o holders, or_true_left (list_any (λ x. x.1 == i) holders) (i + 0 == i) here, flags_above (suc i) n (i + 0) o holders below) refl
flags_more i (suc n) (suc k) o holders h =
    let other : (i + suc k == i) ≡ false = grind (arith, nat_tests) in
    let same : i + suc k ≡ suc i + k = omega arith in
    rw (any_more i (i + suc k) o holders, or_false_left (list_any (λ x. x.1 == i) holders) (i + suc k == i) other) (ap (λ bs. list_any (λ x. x.1 == i) holders ∷ bs) (flags_more (suc i) n k o holders (omega (arith, h)) ∙ ap (λ m. flags_from (suc i) n (holders ++ (o, m) ∷ [])) (sym same)))

pub flags_one_more : (n k : ℕ) (o : Origin) (holders : List (Origin × ℕ)) → k < n → set (flags_from 0 n holders) k true ≡ flags_from 0 n (holders ++ (o, k) ∷ [])
flags_one_more n k o holders h = let e : 0 + k ≡ k = omega arith in rw e at (flags_more 0 n k o holders h)

-- ---- the places of names

within_by : (b : Bool) (i n : ℕ) → i ≤ n → (if b then 0 else suc i) ≤ suc n
within_by true i n h = omega arith
within_by false i n h = omega (arith, h)

pub index_within : (id : List ℕ) (ids : List (List ℕ)) → index_in id ids ≤ length ids
index_within id [] = omega arith
index_within id (x ∷ xs) = within_by (same_bytes id x) (index_in id xs) (length xs) (index_within id xs)

known_by : (id : List ℕ) (xs : List (List ℕ)) (b : Bool) → (b || is_id_in id xs) ≡ true → (is_id_in id xs ≡ true → index_in id xs < length xs) → (if b then 0 else suc (index_in id xs)) < suc (length xs)
known_by id xs true f ih = omega arith
known_by id xs false f ih = let low : index_in id xs < length xs = ih f in omega (arith, low)

new_by : (id : List ℕ) (xs : List (List ℕ)) (b : Bool) → (b || is_id_in id xs) ≡ false → (is_id_in id xs ≡ false → index_in id xs ≡ length xs) → (if b then 0 else suc (index_in id xs)) ≡ suc (length xs)
new_by id xs true f ih = cc
new_by id xs false f ih = ap suc (ih f)

-- a name that is already there has a place below all new ones
pub index_known : (id : List ℕ) (ids : List (List ℕ)) → is_id_in id ids ≡ true → index_in id ids < length ids
index_known id [] e = cc
index_known id (x ∷ xs) e = known_by id xs (same_bytes id x) e (index_known id xs)

-- and a new name comes after all
pub index_new : (id : List ℕ) (ids : List (List ℕ)) → is_id_in id ids ≡ false → index_in id ids ≡ length ids
index_new id [] e = refl
index_new id (x ∷ xs) e = new_by id xs (same_bytes id x) e (index_new id xs)

-- ---- holders have lower places

pub below_more : (m n : ℕ) (holders : List (Origin × ℕ)) → m ≤ n → stand_below m holders ≡ true → stand_below n holders ≡ true
below_more m n [] h e = refl
below_more m n (x ∷ xs) h e =
    let first : nat_lt x.1 m ≡ true = and_left _ _ e in
    let here : nat_lt x.1 n ≡ true = grind (arith, nat_tests) in
    rw here (below_more m n xs h (and_right _ _ e))

below_by : (n : ℕ) (x : Origin × ℕ) (xs : List (Origin × ℕ)) (b : Bool) → nat_lt x.1 n ≡ true → stand_below n xs ≡ true → stand_below n (if b then x ∷ xs else xs) ≡ true
below_by n x xs true h e = rw h e
below_by n x xs false h e = e

pub below_filter : (n : ℕ) (p : Origin × ℕ → Bool) (holders : List (Origin × ℕ)) → stand_below n holders ≡ true → stand_below n (filter p holders) ≡ true
below_filter n p [] e = refl
below_filter n p (x ∷ xs) e =
    below_by n x (filter p xs) (p x) (and_left (nat_lt x.1 n) (stand_below n xs) e) (below_filter n p xs (and_right (nat_lt x.1 n) (stand_below n xs) e))

pub below_push : (n k : ℕ) (o : Origin) (holders : List (Origin × ℕ)) → k < n → stand_below n holders ≡ true → stand_below n (holders ++ (o, k) ∷ []) ≡ true
below_push n k o [] h e = let here : nat_lt k n ≡ true = grind (arith, nat_tests) in rw here refl
below_push n k o (x ∷ xs) h e =
    rw (and_left (nat_lt x.1 n) (stand_below n xs) e) (below_push n k o xs h (and_right (nat_lt x.1 n) (stand_below n xs) e))

-- ---- searching

-- the name is found here
pub index_hit : (id : List ℕ) (ids : List (List ℕ)) (i : ℕ) (d : List ℕ) → i < length ids → index_in id ids ≡ i + index_in id (drop i ids) → same_bytes id (get_or ids i d) ≡ true → index_in id ids ≡ i
index_hit id ids i d h e same =
    let cons : drop i ids ≡ get_or ids i d ∷ drop (suc i) ids = drop-cons ids i d h in
    let zero_more : i + 0 ≡ i = omega arith in
    e ∙ (ap (λ xs. i + index_in id xs) cons ∙ rw same zero_more)

-- or further on
pub index_miss : (id : List ℕ) (ids : List (List ℕ)) (i : ℕ) (d : List ℕ) → i < length ids → index_in id ids ≡ i + index_in id (drop i ids) → same_bytes id (get_or ids i d) ≡ false → index_in id ids ≡ (i + 1) + index_in id (drop (i + 1) ids)
index_miss id ids i d h e same =
    let cons : drop i ids ≡ get_or ids i d ∷ drop (suc i) ids = drop-cons ids i d h in
    let next : suc i ≡ i + 1 = omega arith in
    let one_more : i + suc (index_in id (drop (i + 1) ids)) ≡ (i + 1) + index_in id (drop (i + 1) ids) = omega arith in
    let miss : index_in id (get_or ids i d ∷ drop (suc i) ids) ≡ suc (index_in id (drop (suc i) ids)) = rw same refl in
    e ∙ (ap (λ xs. i + index_in id xs) cons ∙ (ap (λ n. i + n) (miss ∙ ap (λ n. suc (index_in id (drop n ids))) next) ∙ one_more))

-- or not at all
pub index_end : (id : List ℕ) (ids : List (List ℕ)) (i : ℕ) → length ids ≤ i → index_in id ids ≡ i + index_in id (drop i ids) → index_in id ids ≡ i
index_end id ids i h e =
    let none : drop i ids ≡ [] = drop_of_length-le ids h in
    let zero_more : i + 0 ≡ i = omega arith in
    e ∙ (ap (λ xs. i + index_in id xs) none ∙ zero_more)

-- the same for clients
pub holder_hit : (o : Origin) (hs : List (Origin × ℕ)) (i : ℕ) (d : Origin × ℕ) → i < length hs → index_of o hs ≡ index_of o (drop i hs) → same_origin o (get_or hs i d).0 ≡ true → index_of o hs ≡ Some ((get_or hs i d).1)
holder_hit o hs i d h e same =
    let cons : drop i hs ≡ get_or hs i d ∷ drop (suc i) hs = drop-cons hs i d h in
    e ∙ (ap (index_of o) cons ∙ rw same refl)

pub holder_miss : (o : Origin) (hs : List (Origin × ℕ)) (i : ℕ) (d : Origin × ℕ) → i < length hs → index_of o hs ≡ index_of o (drop i hs) → same_origin o (get_or hs i d).0 ≡ false → index_of o hs ≡ index_of o (drop (i + 1) hs)
holder_miss o hs i d h e same =
    let cons : drop i hs ≡ get_or hs i d ∷ drop (suc i) hs = drop-cons hs i d h in
    let next : suc i ≡ i + 1 = omega arith in
    let miss : index_of o (get_or hs i d ∷ drop (suc i) hs) ≡ index_of o (drop (suc i) hs) = rw same refl in
    e ∙ (ap (index_of o) cons ∙ (miss ∙ ap (λ n. index_of o (drop n hs)) next))

pub holder_end : (o : Origin) (hs : List (Origin × ℕ)) (i : ℕ) → length hs ≤ i → index_of o hs ≡ index_of o (drop i hs) → index_of o hs ≡ None
holder_end o hs i h e = e ∙ ap (index_of o) (drop_of_length-le hs h)

-- one more client of those that have a reader
pub below_at : (n : ℕ) (hs : List (Origin × ℕ)) (i : ℕ) (d : Origin × ℕ) → stand_below n hs ≡ true → i < length hs → (get_or hs i d).1 < n
below_at n [] i d e h = absurd (omega (arith, h))
below_at n (x ∷ xs) zero d e h =
    let here : nat_lt x.1 n ≡ true = and_left _ _ e in
    grind (arith, nat_tests)
below_at n (x ∷ xs) (suc i) d e h = below_at n xs i d (and_right _ _ e) (omega (arith, h))

pub flags_step : (here : List Bool) (hs : List (Origin × ℕ)) (i : ℕ) (h : Origin × ℕ) → here ≡ flags (take i hs) → i < length hs → h ≡ get_or hs i h → stand_below 64 hs ≡ true → set here h.1 true ≡ flags (take (i + 1) hs)
flags_step here hs i h e lt is below =
    let next : i + 1 ≡ suc i = omega arith in
    let low : h.1 < 64 = subst (λ (x : Origin × ℕ). x.1 < 64) (sym is) (below_at 64 hs i h below lt) in
    let one : take (suc i) hs ≡ take i hs ++ h ∷ [] = take-suc hs i h lt ∙ ap (λ x. take i hs ++ x ∷ []) (sym is) in
    rw (next, one, e) (flags_one_more 64 h.1 h.0 (take i hs) low)

-- ---- a name that is added

pub with_known : (id : List ℕ) (ids : List (List ℕ)) → index_in id ids < length ids → with_id (Some id) ids ≡ ids
with_known id ids h = by (is_id_in id ids) refl
  where
    by : (b : Bool) → is_id_in id ids ≡ b → (if b then ids else ids ++ id ∷ []) ≡ ids
    by true e = refl
    by false e = absurd (let f = index_new id ids e in omega (arith, f, h))

pub with_unknown : (id : List ℕ) (ids : List (List ℕ)) → length ids ≤ index_in id ids → with_id (Some id) ids ≡ ids ++ id ∷ []
with_unknown id ids h = by (is_id_in id ids) refl
  where
    by : (b : Bool) → is_id_in id ids ≡ b → (if b then ids else ids ++ id ∷ []) ≡ ids ++ id ∷ []
    by true e = absurd (let f = index_known id ids e in omega (arith, f, h))
    by false e = refl

last_by : (id : List ℕ) (xs : List (List ℕ)) (b : Bool) → suc (length xs) ≤ (if b then 0 else suc (index_in id xs)) → (length xs ≤ index_in id xs → index_in id (xs ++ id ∷ []) ≡ index_in id xs)
    → (if b then 0 else suc (index_in id (xs ++ id ∷ []))) ≡ (if b then 0 else suc (index_in id xs))
last_by id xs true f ih = refl
last_by id xs false f ih = ap suc (ih (omega (arith, f)))

index_last : (id : List ℕ) (ids : List (List ℕ)) → length ids ≤ index_in id ids → index_in id (ids ++ id ∷ []) ≡ index_in id ids
index_last id [] h = rw (same_bytes-refl id) refl
index_last id (x ∷ xs) h = last_by id xs (same_bytes id x) h (index_last id xs)

pub index_pushed : (id : List ℕ) (ids : List (List ℕ)) → length ids ≤ index_in id ids → index_in id ids ≡ index_in id (ids ++ id ∷ [])
index_pushed id ids h = sym (index_last id ids h)

pub room_for : (id : List ℕ) (ids : List (List ℕ)) → may_name ids (Some id) ≡ true → length ids ≤ index_in id ids → length ids < 64
room_for id ids m h = by (is_id_in id ids) refl m
  where
    by : (b : Bool) → is_id_in id ids ≡ b → (b || nat_lt (length ids) 64) ≡ true → length ids < 64
    by true e f = absurd (let g = index_known id ids e in omega (arith, g, h))
    by false e f = grind (arith, nat_tests)

-- whether there is room, by the place of the name
pub room_by : (id : List ℕ) (ids : List (List ℕ)) → 64 ≤ length ids → nat_lt (index_in id ids) (length ids) ≡ may_name ids (Some id)
room_by id ids h = by (is_id_in id ids) refl
  where
    full : nat_lt (length ids) 64 ≡ false
    full = grind (arith, nat_tests)

    by : (b : Bool) → is_id_in id ids ≡ b → nat_lt (index_in id ids) (length ids) ≡ (b || nat_lt (length ids) 64)
    by true e = let f = index_known id ids e in grind (arith, nat_tests)
    by false e = let f = index_new id ids e in rw full (grind (arith, nat_tests))

-- if no name is known, nobody has one
pub below_none : (hs : List (Origin × ℕ)) → stand_below 0 hs ≡ true → hs ≡ []
below_none [] e = refl
below_none (x ∷ xs) e =
    let none : nat_lt x.1 0 ≡ false = grind (arith, nat_tests) in
    let some : nat_lt x.1 0 ≡ true = and_left (nat_lt x.1 0) (stand_below 0 xs) e in
    absurd (let both : false ≡ true = sym none ∙ some in cc)

pub none_named : (ids : List (List ℕ)) (hs : List (Origin × ℕ)) → stand_below (length ids) hs ≡ true → not (is_some_of ids) ≡ true → hs ≡ []
none_named [] hs e f = below_none hs e
none_named (x ∷ xs) hs e f = cc

pub place_low : (id : List ℕ) (ids : List (List ℕ)) → length ids ≤ 64 → may_name ids (Some id) ≡ true → index_in id ids < 64
place_low id ids h m = by (is_id_in id ids) refl m
  where
    by : (b : Bool) → is_id_in id ids ≡ b → (b || nat_lt (length ids) 64) ≡ true → index_in id ids < 64
    by true e f = let g = index_known id ids e in omega (arith, g, h)
    by false e f =
        let room : length ids < 64 = grind (arith, nat_tests) in
        let g = index_new id ids e in
        omega (arith, g, room)
