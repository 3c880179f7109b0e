-- No number is handed out by two nodes.
use Rattle.std.proofs.Common.{◌≡◌, ℕ, zero, suc, ◌+◌, ◌<◌, ◌≤◌, Bool, true, false, cond, eqb, List, [], ◌∷◌, ◌++◌, length, Some, refl, sym, ap, ◌∙◌, arith, append_assoc}
use Rattle.std.specs.Prelude.{slice_get}
use Rattle.std.proofs.lemmas.Bool.{eqb-true, eq-eqb}
use mathlib.Core.Option.{some}
use lib.ListN.{get_elem?}
use Rattle.irc_line.specs.Lines.{Parts}
use Rattle.raft_node.specs.Machine.{Machine}
use Rattle.raft_node.specs.Steps.{Out, effects_of}
use Rattle.world_run.specs.World.{Event, count, outputs, left_of, hand_of, hands, handed}
use Rattle.world_run.proofs.Holds.{no_more}
use Rattle.world_run.proofs.Tallies.{one, one_true, bool_cases, count_cons, count_append}
use Rattle.world_views.specs.Views.{IsAt}
use Rattle.world_views.specs.Own.{ViewOf}
use Rattle.world_views.specs.Rule.{IsRule, AreHonest}
use Rattle.world_views.specs.Merged.{PlacedOf}
use Rattle.world_views.specs.Openings.{OpenedAfter, whole}
use Rattle.world_views.specs.Outputs.{outs_of, outs_at, handed_by, IsHistory}
use Rattle.world_views.specs.Laws.{AllDiffer, NoneInBoth, HandsOnce, left_by_all, AllLeaveNoMore, HandedApart, HaveOneHistory, AreOfOneGroup}
use Rattle.world_views.proofs.Openings as opened

-- numbers that are all different

abbrev is_number : ℕ → ℕ × Parts → Bool
is_number n p = eqb p.0 n

counted : (n : ℕ) (xs : List (ℕ × Parts)) (j : ℕ) (line : Parts) → slice_get xs j ≡ Some (n, line) → 0 < count (is_number n) xs
counted n [] j line e = absurd (cc e)
counted n (x ∷ xs) zero line e =
    let same : x ≡ (n, line) = cc e in
    omega (arith, count_cons (is_number n) x xs, one_true (is_number n x) (eq-eqb x.0 n (ap (λ (y : ℕ × Parts). y.0) same)))
counted n (x ∷ xs) (suc j) line e = omega (arith, counted n xs j line e, count_cons (is_number n) x xs)

none_counted : (n : ℕ) (xs : List (ℕ × Parts)) → ((j : ℕ) (line : Parts) → slice_get xs j ≡ Some (n, line) → ⊥) → count (is_number n) xs ≡ 0
none_counted n [] none = refl
none_counted n (x ∷ xs) none =
    bool_cases (is_number n x) (count (is_number n) (x ∷ xs) ≡ 0)
    (λ e. absurd (none 0 x.1 (ap (λ (k : ℕ). Some (k, x.1)) (eqb-true x.0 n e))))
    (λ e. omega (arith, count_cons (is_number n) x xs, ap one e, none_counted n xs (λ j line at. none (suc j) line at)))

-- so each is counted once at most
most_one : (n : ℕ) (xs : List (ℕ × Parts)) → AllDiffer xs → count (is_number n) xs ≤ 1
most_one n [] differ = omega arith
most_one n (x ∷ xs) differ =
    bool_cases (is_number n x) (count (is_number n) (x ∷ xs) ≤ 1)
    (λ e.
    let here : x.0 ≡ n = eqb-true x.0 n e in
    let rest : count (is_number n) xs ≡ 0 = none_counted n xs (λ j line at. let z : zero ≡ suc j = differ 0 (suc j) n x.1 line (ap (λ (k : ℕ). Some (k, x.1)) here) at in omega (arith, z)) in
    omega (arith, count_cons (is_number n) x xs, one_true (is_number n x) e, rest))
    (λ e.
    let rest : count (is_number n) xs ≤ 1 = most_one n xs (λ i j m a b p q. let z : suc i ≡ suc j = differ (suc i) (suc j) m a b p q in omega (arith, z)) in
    omega (arith, count_cons (is_number n) x xs, ap one e, rest))

-- and the other way round
all_differ : (xs : List (ℕ × Parts)) → ((n : ℕ) → count (is_number n) xs ≤ 1) → AllDiffer xs
all_differ [] few i j n a b p q = absurd (cc p)
all_differ (x ∷ xs) few zero zero n a b p q = refl
all_differ (x ∷ xs) few zero (suc j) n a b p q =
    let same : x ≡ (n, a) = cc p in
    absurd (omega (arith, few n, count_cons (is_number n) x xs, one_true (is_number n x) (eq-eqb x.0 n (ap (λ (y : ℕ × Parts). y.0) same)), counted n xs j b q))
all_differ (x ∷ xs) few (suc i) zero n a b p q =
    let same : x ≡ (n, b) = cc q in
    absurd (omega (arith, few n, count_cons (is_number n) x xs, one_true (is_number n x) (eq-eqb x.0 n (ap (λ (y : ℕ × Parts). y.0) same)), counted n xs i a p))
all_differ (x ∷ xs) few (suc i) (suc j) n a b p q =
    ap suc (all_differ xs (λ m. omega (arith, few m, count_cons (is_number m) x xs)) i j n a b p q)

none_in_both : (xs ys : List (ℕ × Parts)) → ((n : ℕ) → count (is_number n) xs + count (is_number n) ys ≤ 1) → NoneInBoth xs ys
none_in_both xs ys few i j n a b p q = omega (arith, few n, counted n xs i a p, counted n ys j b q)

module _ (M : Machine) where
  -- a measure of what comes out, over all of it
  abbrev sum : (Out M → ℕ) → List (Out M) → ℕ
  sum f [] = 0
  sum f (o ∷ outs) = f o + sum f outs

  by_node : (f : Out M → ℕ) (b : Bool) (o : Out M) (outs : List (Out M)) → sum f (cond b (o ∷ outs) outs) ≡ (cond b (f o) 0) + sum f outs
  by_node f true o outs = refl
  by_node f false o outs = omega arith

  at_most : (b c : Bool) (k : ℕ) → (b ≡ true → c ≡ true → ⊥) → (cond b k 0) + (cond c k 0) ≤ k
  at_most true true k apart = absurd (apart refl refl)
  at_most true false k apart = omega arith
  at_most false true k apart = omega arith
  at_most false false k apart = omega arith

  -- what comes out at two nodes is no more than all
  two_sums : (f : Out M → ℕ) (i j : ℕ) (es : List (PlacedOf M)) (outs : List (Out M)) → (i ≡ j → ⊥) → sum f (outs_at M i es outs) + sum f (outs_at M j es outs) ≤ sum f outs
  two_sums f i j [] outs apart = omega arith
  two_sums f i j (e ∷ es) [] apart = omega arith
  two_sums f i j (e ∷ es) (o ∷ outs) apart =
      omega (
        arith,
        by_node f (eqb e.0 i) o (outs_at M i es outs),
        by_node f (eqb e.0 j) o (outs_at M j es outs),
        at_most (eqb e.0 i) (eqb e.0 j) (f o) (λ p q. apart (sym (eqb-true e.0 i p) ∙ eqb-true e.0 j q)),
        two_sums f i j es outs apart,
      )

  left-append : (xs ys : List (Out M)) → left_of M (xs ++ ys) ≡ left_of M xs ++ left_of M ys
  left-append [] ys = refl
  left-append (x ∷ xs) ys = ap (λ (l : List M.Effect). effects_of x ++ l) (left-append xs ys) ∙ sym (append_assoc (effects_of x) (left_of M xs) (left_of M ys))

  hands-append : (xs ys : List M.Effect) → hands M (xs ++ ys) ≡ hands M xs ++ hands M ys
  hands-append [] ys = refl
  hands-append (x ∷ xs) ys = ap (λ (l : List (ℕ × Parts)). hand_of M x ++ l) (hands-append xs ys) ∙ sym (append_assoc (hand_of M x) (hands M xs) (hands M ys))

  -- the effects that pass a test, and the hands of a number
  abbrev passing : (M.Effect → Bool) → Out M → ℕ
  passing test o = count test (effects_of o)

  abbrev of_number : ℕ → Out M → ℕ
  of_number n o = count (is_number n) (hands M (effects_of o))

  sum_passing : (test : M.Effect → Bool) (outs : List (Out M)) → sum (passing test) outs ≡ count test (left_of M outs)
  sum_passing test [] = refl
  sum_passing test (o ∷ outs) = ap (λ (k : ℕ). count test (effects_of o) + k) (sum_passing test outs) ∙ sym (count_append test (effects_of o) (left_of M outs))

  sum_numbers : (n : ℕ) (outs : List (Out M)) → sum (of_number n) outs ≡ count (is_number n) (hands M (left_of M outs))
  sum_numbers n [] = refl
  sum_numbers n (o ∷ outs) =
      ap (λ (k : ℕ). of_number n o + k) (sum_numbers n outs)
      ∙ sym (count_append (is_number n) (hands M (effects_of o)) (hands M (left_of M outs)))
      ∙ sym (ap (count (is_number n)) (hands-append (effects_of o) (left_of M outs)))

  sum-append : (f : Out M → ℕ) (xs ys : List (Out M)) → sum f ys ≤ sum f (xs ++ ys)
  sum-append f [] ys = omega arith
  sum-append f (x ∷ xs) ys = omega (arith, sum-append f xs ys)

  -- what comes out at several nodes, from a place on
  abbrev at_places : (Out M → ℕ) → List (PlacedOf M) → List (Out M) → ℕ → ℕ → ℕ
  at_places f es outs k zero = 0
  at_places f es outs k (suc n) = sum f (outs_at M k es outs) + at_places f es outs (suc k) n

  -- one number, if its place is among these
  abbrev if_among : ℕ → ℕ → ℕ → ℕ → ℕ
  if_among x p k zero = 0
  if_among x p k (suc n) = (cond (eqb p k) x 0) + if_among x p (suc k) n

  not_among : (x p k n : ℕ) → p < k → if_among x p k n ≡ 0
  not_among x p k zero lt = refl
  not_among x p k (suc n) lt =
      let rest : if_among x p (suc k) n ≡ 0 = not_among x p (suc k) n (omega (arith, lt)) in
      bool_cases (eqb p k) (if_among x p k (suc n) ≡ 0)
      (λ e. let same : p ≡ k = eqb-true p k e in absurd (omega (arith, lt, same)))
      (λ e. omega (arith, rest, ap (λ (b : Bool). cond b x 0) e))

  among_once : (x p k n : ℕ) → if_among x p k n ≤ x
  among_once x p k zero = omega arith
  among_once x p k (suc n) =
      bool_cases (eqb p k) (if_among x p k (suc n) ≤ x)
      (λ e.
      let same : p ≡ k = eqb-true p k e in
      let rest : if_among x p (suc k) n ≡ 0 = not_among x p (suc k) n (omega (arith, same)) in
      omega (arith, rest, ap (λ (b : Bool). cond b x 0) e))
      (λ e. omega (arith, among_once x p (suc k) n, ap (λ (b : Bool). cond b x 0) e))

  none_at_places : (f : Out M → ℕ) (es : List (PlacedOf M)) (k n : ℕ) → at_places f es [] k n ≡ 0
  none_at_places f es k zero = refl
  none_at_places f [] k (suc n) = omega (arith, none_at_places f [] (suc k) n)
  none_at_places f (e ∷ es) k (suc n) = omega (arith, none_at_places f (e ∷ es) (suc k) n)

  no_places : (f : Out M → ℕ) (outs : List (Out M)) (k n : ℕ) → at_places f [] outs k n ≡ 0
  no_places f outs k zero = refl
  no_places f outs k (suc n) = omega (arith, no_places f outs (suc k) n)

  one_more : (f : Out M → ℕ) (e : PlacedOf M) (es : List (PlacedOf M)) (o : Out M) (outs : List (Out M)) (k n : ℕ)
      → at_places f (e ∷ es) (o ∷ outs) k n ≡ if_among (f o) e.0 k n + at_places f es outs k n
  one_more f e es o outs k zero = refl
  one_more f e es o outs k (suc n) = omega (arith, by_node f (eqb e.0 k) o (outs_at M k es outs), one_more f e es o outs (suc k) n)

  -- what comes out at the nodes is no more than all
  places_sum : (f : Out M → ℕ) (es : List (PlacedOf M)) (outs : List (Out M)) (k n : ℕ) → at_places f es outs k n ≤ sum f outs
  places_sum f [] outs k n = omega (arith, no_places f outs k n)
  places_sum f (e ∷ es) [] k n = omega (arith, none_at_places f (e ∷ es) k n)
  places_sum f (e ∷ es) (o ∷ outs) k n = omega (arith, one_more f e es o outs k n, among_once (f o) e.0 k n, places_sum f es outs k n)

  -- what comes out by views
  abbrev by_views : (Out M → ℕ) → List (ViewOf M) → ℕ
  by_views f [] = 0
  by_views f (v ∷ views) = sum f (outs_of M v) + by_views f views

  views_sum : (f : Out M → ℕ) (es : List (PlacedOf M)) (outs : List (Out M)) (k : ℕ) (views : List (ViewOf M)) → ((i : ℕ) (v : ViewOf M) → get_elem? views i ≡ some v → outs_at M (k + i) es outs ≡ outs_of M v)
      → by_views f views ≡ at_places f es outs k (length views)
  views_sum f es outs k [] all = refl
  views_sum f es outs k (v ∷ views) all =
      let here : k + 0 ≡ k = omega arith in
      omega (
        arith,
        ap (sum f) (sym (all 0 v refl)),
        ap (λ (j : ℕ). sum f (outs_at M j es outs)) here,
        views_sum f es outs (suc k) views (λ i w at. let next : suc k + i ≡ k + suc i = omega arith in ap (λ (j : ℕ). outs_at M j es outs) next ∙ all (suc i) w at),
      )

  left_sum : (test : M.Effect → Bool) (views : List (ViewOf M)) → by_views (passing test) views ≡ count test (left_by_all M views)
  left_sum test [] = refl
  left_sum test (v ∷ views) = omega (arith, sum_passing test (outs_of M v), left_sum test views, count_append test (left_of M (outs_of M v)) (left_by_all M views))

  module _ (before : List (Event M)) (views : List (ViewOf M)) (es : List (PlacedOf M)) (h : IsHistory M before views es) where
    -- what two views brought out is no more than what comes out of the whole history
    of_two : (f : Out M → ℕ) (i j : ℕ) (v w : ViewOf M) → IsAt views i v → IsAt views j w → (i ≡ j → ⊥)
        → sum f (outs_of M v) + sum f (outs_of M w) ≤ sum f (outputs M (length views) (whole M before views es))
    of_two f i j v w at_v at_w apart =
        omega (
          arith,
          two_sums f i j es h.outs apart,
          ap (sum f) (h.own_outs i v at_v),
          ap (sum f) (h.own_outs j w at_w),
          sum-append f (outputs M (length views) before) h.outs,
          ap (sum f) h.comes_out,
        )

    of_one : (f : Out M → ℕ) (i : ℕ) (v : ViewOf M) → IsAt views i v → sum f (outs_of M v) ≤ sum f (outputs M (length views) (whole M before views es))
    of_one f i v at_v =
        omega (
          arith,
          two_sums f i (suc i) es h.outs (λ e. omega (arith, e)),
          ap (sum f) (h.own_outs i v at_v),
          sum-append f (outputs M (length views) before) h.outs,
          ap (sum f) h.comes_out,
        )

    few : (n : ℕ) → HandsOnce M → sum (of_number n) (outputs M (length views) (whole M before views es)) ≤ 1
    few n once =
        omega (
          arith,
          sum_numbers n (outputs M (length views) (whole M before views es)),
          most_one n (handed M (length views) (whole M before views es)) (once (length views) (whole M before views es)),
        )

    one_differs : (i : ℕ) (v : ViewOf M) → IsAt views i v → HandsOnce M → AllDiffer (handed_by M v)
    one_differs i v at_v once =
        all_differ (handed_by M v) (λ n. omega (arith, sum_numbers n (outs_of M v), of_one (of_number n) i v at_v, few n once))

    two_apart : (i j : ℕ) (v w : ViewOf M) → IsAt views i v → IsAt views j w → (i ≡ j → ⊥) → HandsOnce M → NoneInBoth (handed_by M v) (handed_by M w)
    two_apart i j v w at_v at_w apart once =
        none_in_both (handed_by M v) (handed_by M w)
        (λ n. omega (arith, sum_numbers n (outs_of M v), sum_numbers n (outs_of M w), of_two (of_number n) i j v w at_v at_w apart, few n once))

  -- over all nodes together no more leaves than the agreed list brings about
  pub all_leave_no_more : (before : List (Event M)) (views : List (ViewOf M)) → AllLeaveNoMore M before views
  all_leave_no_more before views es h test =
      omega (
        arith,
        left_sum test views,
        views_sum (passing test) es h.outs 0 views (λ i v at. let z : 0 + i ≡ i = omega arith in ap (λ (j : ℕ). outs_at M j es h.outs) z ∙ h.own_outs i v at),
        places_sum (passing test) es h.outs 0 (length views),
        sum-append (passing test) (outputs M (length views) before) h.outs,
        ap (sum (passing test)) h.comes_out,
        sum_passing test (outputs M (length views) (whole M before views es)),
        no_more M (length views) (whole M before views es) test,
      )

  module _ (n next : ℕ) (before : List (Event M)) (views : List (ViewOf M)) (a : IsRule M n next views) (honest : AreHonest M views) (openings : OpenedAfter M before views) where
    pub handed_apart : HandedApart M before views
    handed_apart once =
        let h = opened.history M n next before views a honest openings in (
          (λ i v at. one_differs before views h.0 h.1 i v at once),
          (λ i j v w at_v at_w apart. two_apart before views h.0 h.1 i j v w at_v at_w apart once),
        )

    -- what two views have together
    pub together : (v w : ViewOf M) → IsAt views v.node v → IsAt views w.node w → HaveOneHistory M before views v w
    together v w at_v at_w =
        let h = opened.history M n next before views a honest openings in
        record {
          events = h.0;
          history = h.1;
          agree = opened.all_agree M n next before views a honest openings v.node w.node v w at_v at_w;
          apart = λ once apart. two_apart before views h.0 h.1 v.node w.node v w at_v at_w apart once;
        }

  -- two views among those of all nodes are of one group
  pub of_one_group : (n next : ℕ) (views : List (ViewOf M)) (v w : ViewOf M) → IsRule M n next views → IsAt views v.node v → IsAt views w.node w → AreOfOneGroup M v w
  of_one_group n next views v w a at_v at_w =
      record {
        views = views;
        size = n;
        next = next;
        rule = a;
        one_at = at_v;
        other_at = at_w;
        follows = λ honest before openings. together n next before views a honest openings v w at_v at_w;
      }
