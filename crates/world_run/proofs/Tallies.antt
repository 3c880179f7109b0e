-- How many items of a list pass a test.
use Rattle.std.proofs.Common.{◌≡◌, ℕ, suc, ◌+◌, ◌<◌, ◌≤◌, Bool, true, false, ◌&&◌, List, [], ◌∷◌, ◌++◌, refl, ap, subst, ◌∙◌, arith}
use Rattle.std.proofs.lemmas.Bool.{cond_both}
use Rattle.std.specs.Prelude.{if◌then◌else◌}
use Rattle.std.specs.Prelude.{filter}
use Rattle.world_run.specs.World.{count}

abbrev pub one : Bool → ℕ
one true = 1
one false = 0

pub bool_cases : (b : Bool) (P : Type 0) → (b ≡ true → P) → (b ≡ false → P) → P
bool_cases true P yes' no' = yes' refl
bool_cases false P yes' no' = no' refl

pub and_true : (a b : Bool) → (a && b) ≡ true → (a ≡ true) × (b ≡ true)
and_true true b h = (refl, h)
and_true false b h = absurd (cc h)

pub and_makes : (a b : Bool) → a ≡ true → b ≡ true → (a && b) ≡ true
and_makes true b e h = h
and_makes false b e h = absurd (cc e)

pub not_both : {P : Type 0} (b : Bool) → b ≡ true → b ≡ false → P
not_both b e f = absurd (cc (e, f))

pub one_false : (b : Bool) → (b ≡ true → ⊥) → one b ≡ 0
one_false true h = absurd (h refl)
one_false false h = refl

pub one_true : (b : Bool) → b ≡ true → one b ≡ 1
one_true true h = refl
one_true false h = absurd (cc h)

module _ {A : Type 0} where
  -- this holds of each item
  abbrev pub All : (A → Type 0) → List A → Type 0
  All P [] = Unit {0}
  All P (x ∷ xs) = P x × All P xs

  pub count_cons : (t : A → Bool) (x : A) (xs : List A) → count t (x ∷ xs) ≡ one (t x) + count t xs
  count_cons t x xs = by (t x) (count t xs)
    where
      by : (b : Bool) (n : ℕ) → (if b then suc n else n) ≡ one b + n
      by true n = omega arith
      by false n = omega arith

  pub count_append : (t : A → Bool) (xs ys : List A) → count t (xs ++ ys) ≡ count t xs + count t ys
  count_append t [] ys = omega arith
  count_append t (x ∷ xs) ys = omega (arith, count_cons t x (xs ++ ys), count_cons t x xs, count_append t xs ys)

  pub count_kept : (t k : A → Bool) (xs : List A) → count t (filter k xs) ≤ count t xs
  count_kept t k [] = omega arith
  count_kept t k (x ∷ xs) =
      cond_both (k x) (x ∷ filter k xs) (filter k xs) (λ z. count t z ≤ count t (x ∷ xs))
      (λ h. omega (arith, count_cons t x (filter k xs), count_cons t x xs, count_kept t k xs))
      (λ h. omega (arith, count_cons t x xs, count_kept t k xs))

  -- what is kept passes no test that it fails
  pub count_none : (t k : A → Bool) (xs : List A) → ((x : A) → k x ≡ true → t x ≡ true → ⊥) → count t (filter k xs) ≡ 0
  count_none t k [] h = refl
  count_none t k (x ∷ xs) h =
      cond_both (k x) (x ∷ filter k xs) (filter k xs) (λ z. count t z ≡ 0)
      (λ e. omega (arith, count_cons t x (filter k xs), one_false (t x) (h x e), count_none t k xs h))
      (λ e. count_none t k xs h)

  -- a list with an item that passes, taken apart at it
  pub record Found (t : A → Bool) (xs : List A) : Type 0 where
    pub front : List A
    pub item : A
    pub back : List A
    pub is : xs ≡ front ++ item ∷ back
    pub passes : t item ≡ true

  pub find : (t : A → Bool) (xs : List A) → 0 < count t xs → Found t xs
  find t [] h = absurd (omega arith)
  find t (x ∷ xs) h =
      bool_cases (t x) (Found t (x ∷ xs))
      (λ e. record { front = []; item = x; back = xs; is = refl; passes = e })
      (λ e.
      let z : one (t x) ≡ 0 = ap one e in
      let r : Found t xs = find t xs (omega (arith, count_cons t x xs, z)) in
      record { front = x ∷ r.front; item = r.item; back = r.back; is = ap (λ ys. x ∷ ys) r.is; passes = r.passes })

  pub count_middle : (t : A → Bool) (front : List A) (x : A) (back : List A) → count t (front ++ x ∷ back) ≡ one (t x) + count t (front ++ back)
  count_middle t front x back = omega (arith, count_append t front (x ∷ back), count_append t front back, count_cons t x back)

  -- each item has a key
  module _ (key : ℕ → ℕ → A → Bool) where
    abbrev pub Keyed : List A → Type 0
    Keyed [] = Unit {0}
    Keyed (x ∷ xs) = ((i : ℕ) × (b : ℕ) × (key i b x ≡ true)) × Keyed xs

    pub keyed_append : (xs ys : List A) → Keyed xs → Keyed ys → Keyed (xs ++ ys)
    keyed_append [] ys a b = b
    keyed_append (x ∷ xs) ys a b = (a.0, keyed_append xs ys a.1 b)

    pub keyed_kept : (i b : ℕ) (k : A → Bool) (xs : List A) → ((x : A) → k x ≡ true → key i b x ≡ true) → Keyed (filter k xs)
    keyed_kept i b k [] h = tt
    keyed_kept i b k (x ∷ xs) h =
        cond_both (k x) (x ∷ filter k xs) (filter k xs) Keyed
        (λ e. ((i, b, h x e), keyed_kept i b k xs h)) (λ e. keyed_kept i b k xs h)

    -- If for each key no more items pass in one list than in another, no more pass at all
    module _ (unique : (x : A) (i b j d : ℕ) → key i b x ≡ true → key j d x ≡ true → (i ≡ j) × (b ≡ d)) (test : A → Bool) where
      abbrev of_key : ℕ → ℕ → A → Bool
      of_key i b x = test x && key i b x

      same_key : (x y : A) (i b j d : ℕ) → of_key i b x ≡ true → of_key i b y ≡ true → one (of_key j d x) ≤ one (of_key j d y)
      same_key x y i b j d p q =
          bool_cases (of_key j d x) (one (of_key j d x) ≤ one (of_key j d y))
          (λ e.
          let u : (i ≡ j) × (b ≡ d) = unique x i b j d (and_true (test x) (key i b x) p).1 (and_true (test x) (key j d x) e).1 in
          let r : of_key j d y ≡ true = subst (λ z. of_key j z y ≡ true) u.1 (subst (λ z. of_key z b y ≡ true) u.0 q) in
          omega (arith, one_true (of_key j d y) r, one_true (of_key j d x) e))
          (λ e. let z : one (of_key j d x) ≡ 0 = ap one e in omega arith)

      pub no_more : (xs ys : List A) → Keyed xs → ((i b : ℕ) → count (of_key i b) xs ≤ count (of_key i b) ys) → count test xs ≤ count test ys
      no_more [] ys k h = omega arith
      no_more (x ∷ xs) ys k h =
          bool_cases (test x) (count test (x ∷ xs) ≤ count test ys)
          (λ e.
          let i : ℕ = k.0.0 in
          let b : ℕ = k.0.1 in
          let p : of_key i b x ≡ true = and_makes (test x) (key i b x) e k.0.2 in
          let f : Found (of_key i b) ys = find (of_key i b) ys (omega (arith, h i b, count_cons (of_key i b) x xs, one_true (of_key i b x) p)) in
          let rest : List A = f.front ++ f.back in
          let total : (t : A → Bool) → count t ys ≡ one (t f.item) + count t (f.front ++ f.back) = λ t. ap (count t) f.is ∙ count_middle t f.front f.item f.back in
          let less : count test xs ≤ count test (f.front ++ f.back) =
          no_more xs (f.front ++ f.back) k.1
          (λ j d. omega (arith, h j d, total (of_key j d), count_cons (of_key j d) x xs, same_key f.item x i b j d f.passes p)) in
          omega (arith, less, total test, count_cons test x xs, one_true (test x) e, one_true (test f.item) (and_true (test f.item) _ f.passes).0))
          (λ e.
          let z : one (test x) ≡ 0 = ap one e in
          omega (arith, count_cons test x xs, z, no_more xs ys k.1 (λ i b. omega (arith, h i b, count_cons (of_key i b) x xs))))
