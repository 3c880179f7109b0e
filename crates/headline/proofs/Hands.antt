-- A line of a number is handed upstream at most once, and is the outgoing line of that number.
use Rattle.std.proofs.Common.{◌≡◌, ℕ, zero, suc, ◌+◌, ◌-◌, ◌<◌, ◌≤◌, Bool, true, List, [], ◌∷◌, ◌++◌, Some, map, length, take, drop, refl, sym, ap, subst, ◌∙◌, ◌⊎◌, inl, inr, ⊎_elim, arith, take-append-drop, append_assoc}
use Rattle.std.specs.Prelude.{◌==◌, slice_get}
use Rattle.std.proofs.lemmas.Bool.{eqb-true, eq-eqb}
use Rattle.irc_line.specs.Lines.{Parts}
use Rattle.wire_bytes.specs.declared.session_id.SessionId.{SessionId}
use Rattle.machine_laws.specs.Runs.{History, all_effects}
use Rattle.machine_laws.specs.Classes.{Handed, handed_by}
use Rattle.machine_laws.specs.declared.class.Class.{Class}
use Rattle.machine_laws.specs.declared.class.Class.TheVariants.{To, Hand, Rejoin, Nowhere}
use Rattle.buffer_commands.specs.Settings.{Settings}
use Rattle.bouncer_tower.specs.Bodies.{TowerBody, TowerEffect, answers, outgoing, claimed}
use Rattle.bouncer_tower.specs.Hosting.{class_of, hand_of, hands, handed_over}
use Rattle.bouncer_tower.proofs.Handed.{hands_are_lines, lines_stay, claims_in_order, all_hands_are_claims}
use Rattle.world_run.specs.World.{count, left}
use Rattle.world_run.specs.World as world
use Rattle.world_run.proofs.Holds as holds
use Rattle.world_run.proofs.Answers as given
use Rattle.world_run.proofs.Tallies.{All, one, one_true, count_cons, bool_cases}
use Rattle.headline.specs.Tower.{tower, hands_number, is_hand}
use Rattle.headline.specs.Promises.{OverAll, bodies, HandedOnce, HandedIsOutgoing}

-- it has this number
abbrev is_number : {A : Type 0} → ℕ → ℕ × A → Bool
is_number n p = p.0 == n

-- counting

-- what an effect hands out, by its class
count_class : (n : ℕ) (c : Class Parts) (hs : List Handed) → count (is_number {A = SessionId} n) (map (λ k. k.0) (handed_by c ++ hs)) ≡ one (hands_number n c) + count (is_number {A = SessionId} n) (map (λ k. k.0) hs)
count_class n (To o) hs = omega arith
count_class n (Hand id m l) hs = count_cons (is_number {A = SessionId} n) (m, id) (map (λ (k : Handed). k.0) hs)
count_class n (Rejoin id l) hs = omega arith
count_class n Nowhere hs = omega arith

count_hands : (n : ℕ) (es : List TowerEffect) → count (is_hand n) es ≡ count (is_number {A = SessionId} n) (map (λ k. k.0) (hands es))
count_hands n [] = refl
count_hands n (e ∷ es) = omega (arith, count_hands n es, count_cons (is_hand n) e es, count_class n (class_of e) (hands es))

-- the same for what leaves for upstream
count_left : (n : ℕ) (c : Class Parts) (hs : List (ℕ × Parts)) → count (is_number {A = Parts} n) (map (λ h. (h.0.0, h.1)) (handed_by c) ++ hs) ≡ one (hands_number n c) + count (is_number {A = Parts} n) hs
count_left n (To o) hs = omega arith
count_left n (Hand id m l) hs = count_cons (is_number {A = Parts} n) (m, l) hs
count_left n (Rejoin id l) hs = omega arith
count_left n Nowhere hs = omega arith

count_handed : (s : Settings) (n : ℕ) (es : List TowerEffect) → count (is_number {A = Parts} n) (world.hands (tower s) es) ≡ count (is_hand n) es
count_handed s n [] = refl
count_handed s n (e ∷ es) = omega (arith, count_handed s n es, count_cons (is_hand n) e es, count_left n (class_of e) (world.hands (tower s) es))

-- numbers that rise one by one are different
numbers_rise : {A : Type 0} (n k : ℕ) (xs : List (ℕ × A)) → ((i m : ℕ) (a : A) → slice_get xs i ≡ Some (m, a) → m ≡ i + k) → (n < k → count (is_number n) xs ≤ 0) × (count (is_number n) xs ≤ 1)
numbers_rise n k [] h = ((λ lt. omega arith), omega arith)
numbers_rise {A} n k (x ∷ xs) h =
    let first : x.0 ≡ 0 + k = h 0 x.0 x.1 refl in
    let r : (n < suc k → count (is_number {A = A} n) xs ≤ 0) × (count (is_number {A = A} n) xs ≤ 1) =
    numbers_rise n (suc k) xs (λ i m a e. let q : m ≡ suc i + k = h (suc i) m a e in omega (arith, q)) in
    bool_cases (x.0 == n) _
    (λ e.
    let is : x.0 ≡ n = eqb-true x.0 n e in
    let z : count (is_number {A = A} n) xs ≤ 0 = r.0 (omega (arith, first, is)) in
    ((λ lt. absurd (omega (arith, first, is, lt))), omega (arith, z, count_cons (is_number {A = A} n) x xs, one_true (x.0 == n) e)))
    (λ e.
    let z : one (x.0 == n) ≡ 0 = ap one e in
    ((λ lt. let q : count (is_number {A = A} n) xs ≤ 0 = r.0 (omega (arith, lt)) in omega (arith, q, count_cons (is_number {A = A} n) x xs, z)), omega (arith, r.1, count_cons (is_number {A = A} n) x xs, z)))

counted : {A : Type 0} (t : A → Bool) (xs : List A) (j : ℕ) (y : A) → slice_get xs j ≡ Some y → t y ≡ true → 0 < count t xs
counted t [] j y b q = absurd (cc b)
counted t (z ∷ xs) zero y b q = let same : z ≡ y = cc b in omega (arith, count_cons t z xs, one_true (t z) (ap t same ∙ q))
counted t (z ∷ xs) (suc j) y b q = omega (arith, counted t xs j y b q, count_cons t z xs)

-- at most one: one place
one_place : {A : Type 0} (t : A → Bool) (xs : List A) (i j : ℕ) (x y : A) → count t xs ≤ 1 → slice_get xs i ≡ Some x → slice_get xs j ≡ Some y → t x ≡ true → t y ≡ true → i ≡ j
one_place t [] i j x y le a b p q = absurd (cc a)
one_place t (z ∷ xs) zero zero x y le a b p q = refl
one_place t (z ∷ xs) zero (suc j) x y le a b p q =
    let same : z ≡ x = cc a in
    let more : 0 < count t xs = counted t xs j y b q in
    absurd (omega (arith, le, more, count_cons t z xs, one_true (t z) (ap t same ∙ p)))
one_place t (z ∷ xs) (suc i) zero x y le a b p q =
    let same : z ≡ y = cc b in
    let more : 0 < count t xs = counted t xs i x a p in
    absurd (omega (arith, le, more, count_cons t z xs, one_true (t z) (ap t same ∙ q)))
one_place t (z ∷ xs) (suc i) (suc j) x y le a b p q = ap suc (one_place t xs i j x y (omega (arith, le, count_cons t z xs)) a b p q)

-- places of lists

get_more : {A : Type 0} (xs ys : List A) (i : ℕ) (x : A) → slice_get xs i ≡ Some x → slice_get (xs ++ ys) i ≡ Some x
get_more [] ys i x e = absurd (cc e)
get_more (y ∷ xs) ys zero x e = e
get_more (y ∷ xs) ys (suc i) x e = get_more xs ys i x e

get_front : {A : Type 0} (xs ys : List A) (n : ℕ) (x : A) → take (length xs) ys ≡ xs → slice_get xs n ≡ Some x → slice_get ys n ≡ Some x
get_front xs ys n x e at =
    subst (λ zs. slice_get zs n ≡ Some x) (take-append-drop (length xs) ys)
    (subst (λ zs. slice_get (zs ++ drop (length xs) ys) n ≡ Some x) (sym e) (get_more xs (drop (length xs) ys) n x at))

-- an item of two lists joined is one of either
get_either : {A : Type 0} (xs ys : List A) (i : ℕ) (x : A) → slice_get (xs ++ ys) i ≡ Some x → (slice_get xs i ≡ Some x) ⊎ ((j : ℕ) × (slice_get ys j ≡ Some x))
get_either [] ys i x e = inr (i, e)
get_either (y ∷ xs) ys zero x e = inl e
get_either (y ∷ xs) ys (suc i) x e = get_either xs ys i x e

get_map : (hs : List Handed) (i : ℕ) (h : Handed) → slice_get hs i ≡ Some h → slice_get (map (λ k. k.0) hs) i ≡ Some h.0
get_map [] i h e = absurd (cc e)
get_map (k ∷ hs) zero h e = let same : k ≡ h = cc e in ap (λ (z : Handed). Some z.0) same
get_map (k ∷ hs) (suc i) h e = get_map hs i h e

hands_append : (xs ys : List TowerEffect) → hands (xs ++ ys) ≡ hands xs ++ hands ys
hands_append [] ys = refl
hands_append (x ∷ xs) ys = ap (λ (hs : List Handed). hand_of x ++ hs) (hands_append xs ys) ∙ sym (append_assoc (hand_of x) (hands xs) (hands ys))

module _ (s : Settings) where
  hand_once : (n : ℕ) (h : History TowerBody) → count (is_hand n) (all_effects (answers s) h) ≤ 1
  hand_once n h =
      let r : (n < 1 → count (is_number {A = SessionId} n) (claimed s h) ≤ 0) × (count (is_number {A = SessionId} n) (claimed s h) ≤ 1) = numbers_rise n 1 (claimed s h) (λ i m id e. claims_in_order s h i m id e) in
      omega (arith, r.1, count_hands n (all_effects (answers s) h), ap (count (is_number {A = SessionId} n)) (all_hands_are_claims s h))

  pub handed_once : OverAll s HandedOnce
  handed_once size es i j n one' other a b =
      one_place (is_number {A = Parts} n) (world.hands (tower s) (left (tower s) size es)) i j (n, one') (n, other)
      (omega (arith, holds.no_more (tower s) size es (is_hand n), hand_once n (bodies s size es), count_handed s n (left (tower s) size es)))
      a b (eq-eqb n n refl) (eq-eqb n n refl)

  -- each line that is handed out is the outgoing one of its number, with its claim

  line_at : (h : History TowerBody) (i n : ℕ) (id : SessionId) (line : Parts) → slice_get (handed_over s h) i ≡ Some ((n, id), line) → slice_get (outgoing s h) (n - 1) ≡ Some line
  line_at [] i n id line e = absurd (cc e)
  line_at (x ∷ h) i n id line e =
      let split : slice_get (handed_over s h ++ hands (answers s h x.0 x.1)) i ≡ Some ((n, id), line) = ap (λ hs. slice_get hs i) (sym (hands_append (all_effects (answers s) h) (answers s h x.0 x.1))) ∙ e in
      let before : slice_get (outgoing s h) (n - 1) ≡ Some line =
      ⊎_elim (λ a. line_at h i n id line a) (λ b. hands_are_lines s h x.0 x.1 b.0 n id line b.1) (get_either (handed_over s h) (hands (answers s h x.0 x.1)) i ((n, id), line) split) in
      get_front (outgoing s h) (outgoing s (x ∷ h)) (n - 1) line (lines_stay s h x.0 x.1) before

  abbrev Claimed : History TowerBody → ℕ → Parts → Type 0
  Claimed h n line = (slice_get (outgoing s h) (n - 1) ≡ Some line) × ((c : ℕ) × (id : SessionId) × (slice_get (claimed s h) c ≡ Some (n, id)))

  claimed_at : (h : History TowerBody) (i n : ℕ) (id : SessionId) (line : Parts) → slice_get (handed_over s h) i ≡ Some ((n, id), line) → Claimed h n line
  claimed_at h i n id line e =
      (line_at h i n id line e, (i, id, ap (λ cs. slice_get cs i) (sym (all_hands_are_claims s h)) ∙ get_map (handed_over s h) i ((n, id), line) e))

  abbrev ClassOk : History TowerBody → Class Parts → Type 0
  ClassOk h (To o) = Unit {0}
  ClassOk h (Hand id n line) = Claimed h n line
  ClassOk h (Rejoin id line) = Unit {0}
  ClassOk h Nowhere = Unit {0}

  abbrev HandOk : History TowerBody → TowerEffect → Type 0
  HandOk h e = ClassOk h (class_of e)

  abbrev Known : History TowerBody → List Handed → Type 0
  Known h hs = (i n : ℕ) (id : SessionId) (line : Parts) → slice_get hs i ≡ Some ((n, id), line) → Claimed h n line

  known_class : (h : History TowerBody) (c : Class Parts) (hs : List Handed) → Known h (handed_by c ++ hs) → ClassOk h c × Known h hs
  known_class h (To o) hs k = (tt, k)
  known_class h (Hand id n line) hs k = (k 0 n id line refl, λ i m other l e. k (suc i) m other l e)
  known_class h (Rejoin id line) hs k = (tt, k)
  known_class h Nowhere hs k = (tt, k)

  all_known : (h : History TowerBody) (es : List TowerEffect) → Known h (hands es) → All (HandOk h) es
  all_known h [] k = tt
  all_known h (e ∷ es) k = let r : ClassOk h (class_of e) × Known h (hands es) = known_class h (class_of e) (hands es) k in (r.0, all_known h es r.1)

  hand_at_class : (h : History TowerBody) (c : Class Parts) (rest : List (ℕ × Parts)) (i n : ℕ) (line : Parts) → ClassOk h c → ((j : ℕ) → slice_get rest j ≡ Some (n, line) → Claimed h n line)
      → slice_get (map (λ k. (k.0.0, k.1)) (handed_by c) ++ rest) i ≡ Some (n, line) → Claimed h n line
  hand_at_class h (To o) rest i n line k more at = more i at
  hand_at_class h (Hand id m l) rest zero n line k more at =
      let pair : ◌≡◌ {A = ℕ × Parts} (m, l) (n, line) = cc at in
      let number : m ≡ n = ap (λ (p : ℕ × Parts). p.0) pair in
      let same : l ≡ line = ap (λ (p : ℕ × Parts). p.1) pair in
      subst (λ z. Claimed h n z) same (subst (λ z. Claimed h z l) number k)
  hand_at_class h (Hand id m l) rest (suc i) n line k more at = more i at
  hand_at_class h (Rejoin id l) rest i n line k more at = more i at
  hand_at_class h Nowhere rest i n line k more at = more i at

  hand_at : (h : History TowerBody) (es : List TowerEffect) (i n : ℕ) (line : Parts) → All (HandOk h) es → slice_get (world.hands (tower s) es) i ≡ Some (n, line) → Claimed h n line
  hand_at h [] i n line a at = absurd (cc at)
  hand_at h (e ∷ es) i n line a at = hand_at_class h (class_of e) (world.hands (tower s) es) i n line a.0 (λ j b. hand_at h es j n line a.1 b) at

  pub handed_is_outgoing : OverAll s HandedIsOutgoing
  handed_is_outgoing size es i n line at =
      hand_at (bodies s size es) (left (tower s) size es) i n line
      (given.leaves_of_agreed (tower s) size es (HandOk (bodies s size es)) (all_known (bodies s size es) (all_effects (answers s) (bodies s size es)) (λ i n id line e. claimed_at (bodies s size es) i n id line e)))
      at
