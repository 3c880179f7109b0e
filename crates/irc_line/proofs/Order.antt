-- The order of folded names.
use Rattle.std.proofs.Common.{◌≡◌, ℕ, ◌-◌, ◌<◌, ◌≤◌, Bool, true, false, ◌||◌, List, [], ◌∷◌, ◌++◌, length, drop, refl, ◌∙◌, arith, subst}
use Rattle.std.specs.Prelude.{◌==◌, nat_lt, find, Some}
use Rattle.std.proofs.lemmas.Bool.Decides.{nat_tests}
use Rattle.std.proofs.lemmas.List.{length-drop}
use Rattle.irc_line.specs.Names.{fold_name}
use Rattle.irc_line.specs.Keys.{at_key, is_in, is_below, is_below_all, are_rising, put_in}
use Rattle.irc_line.proofs.Booleans.{and_left, and_right, and_both, false_of, or_first, or_second}
use Rattle.irc_line.proofs.SameBytes.{same_bytes-refl, same_bytes-eq, same_bytes-sym}
use Rattle.irc_line.proofs.Numbers.{eq_of, lt_of, of_lt}

pub cases_of_or : {P : Type 0} (a b : Bool) → (a || b) ≡ true → (a ≡ true → P) → (a ≡ false → b ≡ true → P) → P
cases_of_or true b e f g = f refl
cases_of_or false b e f g = g refl e

of_eq : (x : ℕ) → (x == x) ≡ true
of_eq x = grind (arith, nat_tests)

not_lt : (x : ℕ) → nat_lt x x ≡ true → false ≡ true
not_lt x e = absurd (let l = lt_of x x e in omega arith)

pub below-irrefl : (a : List ℕ) → is_below a a ≡ true → false ≡ true
below-irrefl [] e = e
below-irrefl (x ∷ xs) e = cases_of_or _ _ e (λ l. not_lt x l) (λ n r. below-irrefl xs (and_right _ _ r))

below_cons : (x y : ℕ) (xs ys : List ℕ) → x < y → is_below (x ∷ xs) (y ∷ ys) ≡ true
below_cons x y xs ys l = or_first _ _ (of_lt x y l)

below_same : (x y : ℕ) (xs ys : List ℕ) → x ≡ y → is_below xs ys ≡ true → is_below (x ∷ xs) (y ∷ ys) ≡ true
below_same x y xs ys e b = or_second (nat_lt x y) _ (and_both _ _ (subst (λ z. (x == z) ≡ true) e (of_eq x)) b)

pub below-trans : (a b c : List ℕ) → is_below a b ≡ true → is_below b c ≡ true → is_below a c ≡ true
below-trans a b [] e f = cc
below-trans a [] (z ∷ zs) e f = cc
below-trans [] (y ∷ ys) (z ∷ zs) e f = refl
below-trans (x ∷ xs) (y ∷ ys) (z ∷ zs) e f =
    cases_of_or _ _ e
    (λ l. cases_of_or _ _ f
    (λ m. below_cons x z xs zs (let p = lt_of x y l in let q = lt_of y z m in omega arith))
    (λ n r. below_cons x z xs zs (let p = lt_of x y l in let q = eq_of y z (and_left _ _ r) in omega arith)))
    (λ n r. cases_of_or _ _ f
    (λ m. below_cons x z xs zs (let p = eq_of x y (and_left _ _ r) in let q = lt_of y z m in omega arith))
    (λ k s. below_same x z xs zs (let p = eq_of x y (and_left _ _ r) in let q = eq_of y z (and_left _ _ s) in omega arith) (below-trans xs ys zs (and_right _ _ r) (and_right _ _ s))))

pub below-asym : (a b : List ℕ) → is_below a b ≡ true → is_below b a ≡ false
below-asym a b e = false_of _ (λ f. below-irrefl a (below-trans a b a e f))

pub put_in-front : (c : List ℕ) (cs : List (List ℕ)) → is_below_all c cs ≡ true → put_in c cs ≡ c ∷ cs
put_in-front c [] e = refl
put_in-front c (d ∷ ds) e = rw (below-asym (fold_name c) (fold_name d) e) refl

-- each name comes before each later one
pub rising-below : (f : List ℕ) (front : List (List ℕ)) (c : List ℕ) (back : List (List ℕ)) → are_rising (f ∷ (front ++ c ∷ back)) ≡ true → is_below (fold_name f) (fold_name c) ≡ true
rising-below f [] c back e = and_left _ _ e
rising-below f (g ∷ front) c back e =
    below-trans (fold_name f) (fold_name g) (fold_name c) (and_left _ _ e) (rising-below g front c back (and_right _ _ e))

pub other_key : (c f : List ℕ) → is_below (fold_name f) (fold_name c) ≡ true → at_key (fold_name c) f ≡ false
unfolding at_key
other_key c f e = false_of _ (λ s. below-irrefl (fold_name f) (subst (λ k. is_below (fold_name f) k ≡ true) (same_bytes-eq (fold_name c) (fold_name f) s) e))

-- a name that has a key folds to it
pub key_is : (key name : List ℕ) → at_key key name ≡ true → key ≡ fold_name name
unfolding at_key
key_is key name e = same_bytes-eq key (fold_name name) e

-- two names have each other's key, or neither has
pub at_key-sym : (c d : List ℕ) → at_key (fold_name c) d ≡ at_key (fold_name d) c
unfolding at_key
at_key-sym c d = same_bytes-sym (fold_name c) (fold_name d)

pub own_key : (c : List ℕ) → at_key (fold_name c) c ≡ true
unfolding at_key
own_key c = same_bytes-refl (fold_name c)

-- a name among rising names is found under its key
pub find-own : (front : List (List ℕ)) (c : List ℕ) (back : List (List ℕ)) → are_rising (front ++ c ∷ back) ≡ true → find (at_key (fold_name c)) (front ++ c ∷ back) ≡ Some c
find-own [] c back e = rw (own_key c) refl
find-own (f ∷ front) c back e = rw (other_key c f (rising-below f front c back e)) (find-own front c back (and_right _ _ e))

pub in-own : (front : List (List ℕ)) (c : List ℕ) (back : List (List ℕ)) → is_in (fold_name c) (front ++ c ∷ back) ≡ true
in-own [] c back = or_first _ _ (own_key c)
in-own (f ∷ front) c back = or_second (at_key (fold_name c) f) _ (in-own front c back)

lt_is : (x y : ℕ) → x < y → true ≡ nat_lt x y
lt_is x y h = grind (arith, nat_tests)

lt_is_not : (x y : ℕ) → y ≤ x → false ≡ nat_lt x y
lt_is_not x y h = grind (arith, nat_tests)

ends_at_front : (a b : List ℕ) → (0 < length a → length b ≤ 0) → is_below (fold_name a) (fold_name b) ≡ nat_lt (length a) (length b)
ends_at_front [] [] h = lt_is_not 0 0 (omega arith)
ends_at_front [] (y ∷ b) h = lt_is 0 (length (y ∷ b)) (omega arith)
ends_at_front (x ∷ a) [] h = lt_is_not (length (x ∷ a)) 0 (omega arith)
ends_at_front (x ∷ a) (y ∷ b) h = absurd (let l = h (omega arith) in omega arith)

lt_less : (x y n : ℕ) → n ≤ x → n ≤ y → nat_lt (x - n) (y - n) ≡ nat_lt x y
lt_less x y n h k = grind (arith, nat_tests)

-- where one of two names ends, the shorter one comes first
pub below_ends : (a b : List ℕ) (n : ℕ) → n ≤ length a → n ≤ length b → (n < length a → length b ≤ n) → is_below (fold_name (drop n a)) (fold_name (drop n b)) ≡ nat_lt (length a) (length b)
below_ends a b n h k e =
    ends_at_front (drop n a) (drop n b) (λ l. let m : n < length a = omega (arith, l, length-drop n a) in omega (arith, e m, length-drop n b))
    ∙ rw (length-drop n a, length-drop n b) (lt_less (length a) (length b) n h k)
