-- The position of a node among the others, and the item at a place of a list that was written to.
use Rattle.std.proofs.Common.{◌≡◌, ℕ, zero, suc, ◌+◌, ◌<◌, ◌≤◌, false, eqb, ltb, List, [], ◌∷◌, ◌++◌, length, map, replicate, get_or, set, slice_get, Some, refl, sym, ap, subst, ◌∙◌, arith, ⊎_elim}
use Rattle.std.proofs.lemmas.Bool.{cond-true, cond-false, eqb-true, eq-eqb, lt-ltb, le-ltb, cases_lt, cases_Bool}
use Rattle.raft_log.specs.Lists.{item, item_or, with_item, range_from, without, others}
use Rattle.progress.specs.Plans.{place_among}

pub some_same : {A : Type 0} {x y : A} → Some x ≡ Some y → x ≡ y
some_same h = cc

pub eqb_no : (a b : ℕ) → (a ≡ b → ⊥) → eqb a b ≡ false
eqb_no a b h = ⊎_elim (λ t. absurd (h (eqb-true a b t))) (λ f. f) (cases_Bool (eqb a b))

without_keeps : (c a : ℕ) (js : List ℕ) → (a ≡ c → ⊥) → without c (a ∷ js) ≡ a ∷ without c js
without_keeps c a js h = cond-false (eqb a c) (without c js) (a ∷ without c js) (eqb_no a c h)

without_drops : (c : ℕ) (js : List ℕ) → without c (c ∷ js) ≡ without c js
without_drops c js = cond-true (eqb c c) (without c js) (c ∷ without c js) (eq-eqb c c refl)

past : (m a c : ℕ) → c < a → without c (range_from a m) ≡ range_from a m
past zero a c h = refl
past (suc m) a c h = without_keeps c a (range_from (suc a) m) (λ e. omega arith) ∙ ap (λ z. a ∷ z) (past m (suc a) c (omega arith))

in_range : (m a j k : ℕ) → a + k ≡ j → j < a + m → slice_get (range_from a m) k ≡ Some j
in_range zero a j k e h = absurd (omega arith)
in_range (suc m) a j zero e h = ap Some (omega arith)
in_range (suc m) a j (suc k) e h = in_range m (suc a) j k (omega arith) (omega arith)

before : (m a c j k : ℕ) → a + k ≡ j → j < a + m → j < c → slice_get (without c (range_from a m)) k ≡ Some j
before zero a c j k e h lt = absurd (omega arith)
before (suc m) a c j zero e h lt =
    subst (λ (z : List ℕ). slice_get z 0 ≡ Some j) (sym (without_keeps c a (range_from (suc a) m) (λ q. omega arith))) (ap Some (omega arith))
before (suc m) a c j (suc k) e h lt =
    subst (λ (z : List ℕ). slice_get z (suc k) ≡ Some j) (sym (without_keeps c a (range_from (suc a) m) (λ q. omega arith)))
    (before m (suc a) c j k (omega arith) (omega arith) lt)

behind_here : (m a c j k : ℕ) → suc (a + k) ≡ j → j < a + suc m → a ≡ c → slice_get (without c (range_from a (suc m))) k ≡ Some j
behind_here m a c j k e h q =
    subst (λ (z : List ℕ). slice_get z k ≡ Some j)
    (sym (subst (λ x. without x (a ∷ range_from (suc a) m) ≡ without x (range_from (suc a) m)) q (without_drops a (range_from (suc a) m)) ∙ past m (suc a) c (omega arith)))
    (in_range m (suc a) j k (omega arith) (omega arith))

behind : (m a c j k : ℕ) → suc (a + k) ≡ j → j < a + m → a ≤ c → c < j → slice_get (without c (range_from a m)) k ≡ Some j
behind zero a c j k e h le lt = absurd (omega arith)
behind (suc m) a c j zero e h le lt =
    ⊎_elim (λ more. absurd (omega arith)) (λ same. behind_here m a c j 0 e h (omega arith)) (cases_lt a c)
behind (suc m) a c j (suc k) e h le lt =
    ⊎_elim
    (λ more.
    subst (λ (z : List ℕ). slice_get z (suc k) ≡ Some j) (sym (without_keeps c a (range_from (suc a) m) (λ q. omega arith)))
    (behind m (suc a) c j k (omega arith) (omega arith) (omega arith) lt))
    (λ same. behind_here m a c j (suc k) e h (omega arith)) (cases_lt a c)

-- the others, at the place of one of them
pub other_at : (n c j : ℕ) → 1 ≤ c → 1 ≤ j → j ≤ n → (j ≡ c → ⊥) → (k : ℕ) × (place_among c j ≡ suc k) × (slice_get (others n c) k ≡ Some j)
other_at n c zero lc lj le ne = absurd (omega arith)
other_at n c (suc j) lc lj le ne =
    ⊎_elim (λ lt. under j lt ne le) (λ ge. (j, cond-false (ltb c (suc j)) j (suc j) (le-ltb c (suc j) ge), before n 1 c (suc j) j (omega arith) (omega arith) (less ge)))
    (cases_lt c (suc j))
  where
    less : suc j ≤ c → suc j < c
    less ge = ⊎_elim (λ h. h) (λ h. absurd (ne (omega arith))) (cases_lt (suc j) c)

    under : (j : ℕ) → c < suc j → (suc j ≡ c → ⊥) → suc j ≤ n → (k : ℕ) × (place_among c (suc j) ≡ suc k) × (slice_get (others n c) k ≡ Some (suc j))
    under zero lt ne le = absurd (omega arith)
    under (suc j) lt ne le = (j, cond-true (ltb c (suc (suc j))) (suc j) (suc (suc j)) (lt-ltb c (suc (suc j)) lt), behind n 1 c (suc (suc j)) j (omega arith) (omega arith) lc lt)

module _ {A : Type 0} where
  pub get_append : (xs ys : List A) (k : ℕ) → slice_get (xs ++ ys) (length xs + k) ≡ slice_get ys k
  get_append [] ys k = ap (λ z. slice_get ys z) (omega arith)
  get_append (x ∷ xs) ys k =
      let e : length (x ∷ xs) + k ≡ suc (length xs + k) = omega arith in
      ap (λ z. slice_get (x ∷ (xs ++ ys)) z) e ∙ get_append xs ys k

  -- what was pushed comes after what was there
  pub item_append : (xs ys : List A) (n k : ℕ) → n ≡ length xs + suc k → item (xs ++ ys) n ≡ slice_get ys k
  item_append xs ys zero k e = absurd (omega arith)
  item_append xs ys (suc n) k e = let f : n ≡ length xs + k = omega arith in ap (λ z. slice_get (xs ++ ys) z) f ∙ get_append xs ys k

  pub item_last : (xs : List A) (x : A) → item (xs ++ x ∷ []) (suc (length xs)) ≡ Some x
  item_last xs x = item_append xs (x ∷ []) (suc (length xs)) 0 (omega arith)

  get_set_here : (xs : List A) (i : ℕ) (x z : A) → slice_get xs i ≡ Some z → slice_get (set xs i x) i ≡ Some x
  get_set_here [] i x z h = absurd (cc h)
  get_set_here (y ∷ xs) zero x z h = refl
  get_set_here (y ∷ xs) (suc i) x z h = get_set_here xs i x z h

  get_set_else : (xs : List A) (i k : ℕ) (x : A) → (k ≡ i → ⊥) → slice_get (set xs i x) k ≡ slice_get xs k
  get_set_else [] i k x ne = refl
  get_set_else (y ∷ xs) zero zero x ne = absurd (ne refl)
  get_set_else (y ∷ xs) zero (suc k) x ne = refl
  get_set_else (y ∷ xs) (suc i) zero x ne = refl
  get_set_else (y ∷ xs) (suc i) (suc k) x ne = get_set_else xs i k x (λ e. ne (ap suc e))

  pub with_here : (xs : List A) (i : ℕ) (x z : A) → item xs i ≡ Some z → item (with_item xs i x) i ≡ Some x
  with_here xs zero x z h = absurd (cc h)
  with_here xs (suc i) x z h = get_set_here xs i x z h

  pub with_else : (xs : List A) (i k : ℕ) (x : A) → (k ≡ i → ⊥) → item (with_item xs i x) k ≡ item xs k
  with_else xs zero k x ne = refl
  with_else xs (suc i) zero x ne = refl
  with_else xs (suc i) (suc k) x ne = get_set_else xs i k x (λ e. ne (ap suc e))

  get_there : (xs : List A) (k : ℕ) → k < length xs → (x : A) × (slice_get xs k ≡ Some x)
  get_there [] k h = absurd (omega arith)
  get_there (x ∷ xs) zero h = (x, refl)
  get_there (x ∷ xs) (suc k) h = get_there xs k (omega arith)

  pub item_there : (xs : List A) (k : ℕ) → 1 ≤ k → k ≤ length xs → (x : A) × (item xs k ≡ Some x)
  item_there xs zero h le = absurd (omega arith)
  item_there xs (suc k) h le = get_there xs k le

  or_here : (xs : List A) (i : ℕ) (x d : A) → i < length xs → get_or (set xs i x) i d ≡ x
  or_here [] i x d h = absurd (omega arith)
  or_here (y ∷ xs) zero x d h = refl
  or_here (y ∷ xs) (suc i) x d h = or_here xs i x d (omega arith)

  or_else : (xs : List A) (i k : ℕ) (x d : A) → (k ≡ i → ⊥) → get_or (set xs i x) k d ≡ get_or xs k d
  or_else [] i k x d ne = refl
  or_else (y ∷ xs) zero zero x d ne = absurd (ne refl)
  or_else (y ∷ xs) zero (suc k) x d ne = refl
  or_else (y ∷ xs) (suc i) zero x d ne = refl
  or_else (y ∷ xs) (suc i) (suc k) x d ne = or_else xs i k x d (λ e. ne (ap suc e))

  pub written_here : (xs : List A) (i : ℕ) (x d : A) → 1 ≤ i → i ≤ length xs → item_or (with_item xs i x) i d ≡ x
  written_here xs zero x d h le = absurd (omega arith)
  written_here xs (suc i) x d h le = or_here xs i x d le

  pub written_else : (xs : List A) (i k : ℕ) (x d : A) → (k ≡ i → ⊥) → item_or (with_item xs i x) k d ≡ item_or xs k d
  written_else xs zero k x d ne = refl
  written_else xs (suc i) zero x d ne = refl
  written_else xs (suc i) (suc k) x d ne = or_else xs i k x d (λ e. ne (ap suc e))

  pub get_map : {C : Type 0} (f : A → C) (xs : List A) (k : ℕ) (x : A) → slice_get xs k ≡ Some x → slice_get (map f xs) k ≡ Some (f x)
  get_map f [] k x h = absurd (cc h)
  get_map f (y ∷ xs) zero x h = let e : y ≡ x = cc h in ap (λ z. Some (f z)) e
  get_map f (y ∷ xs) (suc k) x h = get_map f xs k x h

  or_replicate : (n k : ℕ) (x d : A) → k < n → get_or (replicate n x) k d ≡ x
  or_replicate zero k x d h = absurd (omega arith)
  or_replicate (suc n) zero x d h = refl
  or_replicate (suc n) (suc k) x d h = or_replicate n k x d (omega arith)

  pub item_replicate : (n k : ℕ) (x d : A) → 1 ≤ k → k ≤ n → item_or (replicate n x) k d ≡ x
  item_replicate n zero x d h le = absurd (omega arith)
  item_replicate n (suc k) x d h le = or_replicate n k x d le
