-- What running nodes hand upstream in the periods of a life.
use Rattle.std.proofs.Common.{◌≡◌, ap, ℕ, zero, suc, ◌+◌, ◌<◌, ◌≤◌, ◌==◌, ⊎_elim, List, [], ◌∷◌, ◌++◌, length, slice_get, Option, Some, None, refl, sym, subst, ◌∙◌, arith, append_assoc}
use Rattle.std.proofs.lemmas.Bool.{cond_both}
use Rattle.irc_line.specs.Lines.{Parts}
use Rattle.buffer_commands.specs.Settings.{Settings}
use Rattle.bouncer_tower.specs.Bodies.{TowerBody}
use Rattle.raft_log.specs.Lists.{item}
use Rattle.raft_log.specs.Node.{Node}
use Rattle.raft_node.specs.Parts.{saved_by}
use Rattle.raft_node.specs.Sound.{sent_first}
use Rattle.raft_node.specs.Steps.{Out, effects_of}
use Rattle.agreement.specs.World.{start}
use Rattle.world_run.specs.World.{Event, handed, hands, left_of, outputs, outs, run}
use Rattle.world_views.specs.Laws.{NoneInBoth}
use Rattle.world_views.specs.Views.{IsAt}
use Rattle.world_views.specs.Own.{ViewOf}
use Rattle.world_views.specs.Merged.{PlacedOf}
use Rattle.world_views.specs.Openings.{IsNow, first_world, sent_in}
use Rattle.world_views.specs.Outputs.{IsHistory, handed_by, outs_at}
use Rattle.world_views.proofs.Histories.{outs-append, run-append}
use Rattle.world_views.proofs.Places.{get_past}
use Rattle.headline.specs.Tower.{tower}
use Rattle.headline.proofs.Hands.{handed_once}
use Rattle.store_life.specs.Periods.{HandsItsLines, Period, base_behind, claimed_after, claimed_before, end_of, handed_in, opening_of}
use Rattle.store_life.specs.Running.{AreAmong, NodesEndAsViewed, NoneHandedAgain, RunningPeriod, ViewsHandOfTheirPeriod, ViewsHandOthers, base_at, opened_after, period_of, periods_of, recorded}
use Rattle.store_life.proofs.Claims.{get_more}
use Rattle.store_life.proofs.Handing.{hands-append, left-append}
use Rattle.store_life.proofs.Lives.{AllHand, all_hand, split}
use Rattle.store_life.proofs.Opened.{make_at}
use Rattle.store_life.proofs.Periods.{some_below}

same_rest : {A : Type 0} (xs ys zs : List A) → xs ++ ys ≡ xs ++ zs → ys ≡ zs
same_rest [] ys zs e = e
same_rest (x ∷ xs) ys zs e = same_rest xs ys zs (let f : xs ++ ys ≡ xs ++ zs = cc e in f)

among_behind : (xs ys zs : List (ℕ × Parts)) → AreAmong xs ys → AreAmong xs (zs ++ ys)
among_behind xs ys zs f k h at = let r = f k h at in (length zs + r.0, get_past zs ys r.0 h r.1)

among_joined : (xs ys zs : List (ℕ × Parts)) → AreAmong xs ys → AreAmong (zs ++ xs) (zs ++ ys)
among_joined xs ys zs f k h at =
    ⊎_elim
    (λ a. (k, get_more zs ys k h a))
    (λ b. among_behind xs ys zs f b.0 h b.2)
    (split zs xs k h at)

module _ (s : Settings) where
  lines : List (Out (tower s)) → List (ℕ × Parts)
  lines os = hands (tower s) (left_of (tower s) os)

  -- what came out of the events of one node is among what came out of all
  of_one : (i : ℕ) (es : List (PlacedOf (tower s))) (os : List (Out (tower s))) → AreAmong (lines (outs_at (tower s) i es os)) (lines os)
  unfolding lines
  of_one i [] os = λ k h at. absurd (cc at)
  of_one i (e ∷ es) [] = λ k h at. absurd (cc at)
  of_one i (e ∷ es) (o ∷ os) =
      let more : hands (tower s) (left_of (tower s) (o ∷ os)) ≡ hands (tower s) (effects_of o) ++ hands (tower s) (left_of (tower s) os) = hands-append s (effects_of o) (left_of (tower s) os) in
      let rest : AreAmong (hands (tower s) (left_of (tower s) (outs_at (tower s) i es os))) (hands (tower s) (left_of (tower s) os)) = of_one i es os in
      subst (λ (l : List (ℕ × Parts)). AreAmong (hands (tower s) (left_of (tower s) (outs_at (tower s) i (e ∷ es) (o ∷ os)))) l) (sym more)
      (cond_both (e.0 == i) (o ∷ outs_at (tower s) i es os) (outs_at (tower s) i es os)
      (λ (l : List (Out (tower s))). AreAmong (hands (tower s) (left_of (tower s) l)) (hands (tower s) (effects_of o) ++ hands (tower s) (left_of (tower s) os)))
      (λ y. subst (λ (l : List (ℕ × Parts)). AreAmong l (hands (tower s) (effects_of o) ++ hands (tower s) (left_of (tower s) os))) (sym (hands-append s (effects_of o) (left_of (tower s) (outs_at (tower s) i es os))))
      (among_joined (hands (tower s) (left_of (tower s) (outs_at (tower s) i es os))) (hands (tower s) (left_of (tower s) os)) (hands (tower s) (effects_of o)) rest))
      (λ n. among_behind (hands (tower s) (left_of (tower s) (outs_at (tower s) i es os))) (hands (tower s) (left_of (tower s) os)) (hands (tower s) (effects_of o)) rest))

module _ (r : RunningPeriod) (h : IsHistory (tower r.settings) (opened_after r) r.views r.records) where
  -- the nodes as they were last opened
  abbrev opened_last : List (Node TowerBody)
  opened_last = run (tower r.settings) (opened_after r) (start (length r.views))

  -- what came out since is what the records have
  outs_are : outs (tower r.settings) (recorded r) opened_last ≡ h.outs
  outs_are =
      same_rest (outputs (tower r.settings) (length r.views) (opened_after r)) (outs (tower r.settings) (recorded r) opened_last) h.outs
      (sym (outs-append (tower r.settings) (opened_after r) (recorded r) (start (length r.views))) ∙ h.comes_out)

  -- the lines that were handed since, and those that were handed in the period before
  abbrev since : List (ℕ × Parts)
  since = hands (tower r.settings) (left_of (tower r.settings) (outs (tower r.settings) (recorded r) opened_last))

  abbrev so_far : List (ℕ × Parts)
  so_far = hands (tower r.settings) (left_of (tower r.settings) (outs (tower r.settings) r.earlier (opening_of (period_of r))))

  among_since : (i : ℕ) (v : ViewOf (tower r.settings)) → IsAt r.views i v → AreAmong (handed_by (tower r.settings) v) since
  unfolding lines
  among_since i v at =
      subst (λ (os : List (Out (tower r.settings))). AreAmong (hands (tower r.settings) (left_of (tower r.settings) os)) since) (h.own_outs i v at)
      (subst (λ (os : List (Out (tower r.settings))). AreAmong (hands (tower r.settings) (left_of (tower r.settings) (outs_at (tower r.settings) i r.records h.outs))) (hands (tower r.settings) (left_of (tower r.settings) os))) (sym outs_are)
      (of_one r.settings i r.records h.outs))

  -- what events hand, and more events after them
  joined : (xs ys : List (Event (tower r.settings))) (w : List (Node TowerBody)) → hands (tower r.settings) (left_of (tower r.settings) (outs (tower r.settings) (xs ++ ys) w))
      ≡ hands (tower r.settings) (left_of (tower r.settings) (outs (tower r.settings) xs w)) ++ hands (tower r.settings) (left_of (tower r.settings) (outs (tower r.settings) ys (run (tower r.settings) xs w)))
  joined xs ys w =
      ap (λ o. hands (tower r.settings) (left_of (tower r.settings) o)) (outs-append (tower r.settings) xs ys w)
      ∙ ap (hands (tower r.settings)) (left-append r.settings (outs (tower r.settings) xs w) (outs (tower r.settings) ys (run (tower r.settings) xs w)))
      ∙ hands-append r.settings (left_of (tower r.settings) (outs (tower r.settings) xs w)) (left_of (tower r.settings) (outs (tower r.settings) ys (run (tower r.settings) xs w)))

  period_parts : handed_in (period_of r) ≡ so_far ++ since
  period_parts =
      joined r.earlier (recorded r) (opening_of (period_of r))
      ∙ ap (λ (w : List (Node TowerBody)). so_far ++ hands (tower r.settings) (left_of (tower r.settings) (outs (tower r.settings) (recorded r) w))) (sym (run-append (tower r.settings) r.before r.earlier (start (length r.views))))

  handed_among : (i : ℕ) (v : ViewOf (tower r.settings)) → IsAt r.views i v → AreAmong (handed_by (tower r.settings) v) (handed_in (period_of r))
  handed_among i v at =
      subst (λ (l : List (ℕ × Parts)). AreAmong (handed_by (tower r.settings) v) l) (sym period_parts) (among_behind (handed_by (tower r.settings) v) since so_far (among_since i v at))

  others : (i : ℕ) (v : ViewOf (tower r.settings)) → IsAt r.views i v → NoneInBoth (handed (tower r.settings) (length r.views) (opened_after r)) (handed_by (tower r.settings) v)
  others i v at k l n one other a b =
      let old : List (ℕ × Parts) = handed (tower r.settings) (length r.views) (opened_after r) in
      let u = among_since i v at l (n, other) b in
      let all : handed (tower r.settings) (length r.views) (opened_after r ++ recorded r) ≡ old ++ since = joined (opened_after r) (recorded r) (start (length r.views)) in
      let lt : k < length old = some_below old k (n, one) a in
      let e : k ≡ length old + u.0 =
      handed_once r.settings (length r.views) (opened_after r ++ recorded r) k (length old + u.0) n one other
      (ap (λ (x : List (ℕ × Parts)). slice_get x k) all ∙ get_more old since k (n, one) a)
      (ap (λ (x : List (ℕ × Parts)). slice_get x (length old + u.0)) all ∙ get_past old since u.0 (n, other) u.1) in
      omega (arith, lt, e)

  ends_by : (i : ℕ) (s : Node TowerBody) (w u : List (Node TowerBody)) (o : Option (ℕ × Node TowerBody)) (b : ℕ × Node TowerBody) → o ≡ Some b → IsNow (tower r.settings) w u i s o
      → (x : Node TowerBody) × (item u i ≡ Some x) × (saved_by x ≡ saved_by s)
  ends_by i s w u None b e is = absurd (cc e)
  ends_by i s w u (Some c) b e is = (sent_first (sent_in w i) s, is, refl)

  last_world : run (tower r.settings) (opened_after r ++ recorded r) (start (length r.views)) ≡ end_of (period_of r)
  last_world = ap (λ (es : List (Event (tower r.settings))). run (tower r.settings) es (start (length r.views))) (append_assoc r.before r.earlier (recorded r))

pub views_hand_of_their_period : ViewsHandOfTheirPeriod
views_hand_of_their_period r h i v at = handed_among r h i v at

pub views_hand_others : ViewsHandOthers
views_hand_others r h i v at = others r h i v at

pub nodes_end_as_viewed : NodesEndAsViewed
nodes_end_as_viewed r h i v b at o =
    let x = ends_by r h (suc i) v.state (first_world (tower r.settings) (opened_after r) r.views) (run (tower r.settings) (opened_after r ++ recorded r) (start (length r.views))) v.opened b o (h.states i v at) in
    (x.0, ap (λ (w : List (Node TowerBody)). item w (suc i)) (sym (last_world r h)) ∙ x.1, x.2)

-- the bases of a life rise
base_rises : (base : ℕ) (ps : List Period) (i : ℕ) → base ≤ base_at base ps i
base_rises base [] i = omega arith
base_rises base (p ∷ later) zero = omega arith
base_rises base (p ∷ later) (suc i) = let h : base_behind base p ≤ base_at (base_behind base p) later i = base_rises (base_behind base p) later i in omega arith

bases_rise : (base : ℕ) (ps : List Period) (i j : ℕ) (p : Period) → i < j → slice_get ps i ≡ Some p → base_behind (base_at base ps i) p ≤ base_at base ps j
bases_rise base [] i j p lt at = absurd (cc at)
bases_rise base (q ∷ later) i zero p lt at = absurd (omega arith)
bases_rise base (q ∷ later) zero (suc j) p lt at =
    let same : q ≡ p = cc at in
    subst (λ (x : Period). base_behind base x ≤ base_at (base_behind base q) later j) same (base_rises (base_behind base q) later j)
bases_rise base (q ∷ later) (suc i) (suc j) p lt at = bases_rise (base_behind base q) later i j p (omega arith) at

hands_at : (ps : List Period) (i : ℕ) (p : Period) → AllHand ps → slice_get ps i ≡ Some p → HandsItsLines p
hands_at [] i p a at = absurd (cc at)
hands_at (q ∷ later) zero p a at = let same : q ≡ p = cc at in subst HandsItsLines same a.0
hands_at (q ∷ later) (suc i) p a at = hands_at later i p a.1 at

pub none_handed_again : NoneHandedAgain
none_handed_again rs life all i j p q lt at_i at_j a b v w at_v at_w k l n m one other x y =
    let ps : List Period = periods_of rs in
    let here : slice_get ps i ≡ Some (period_of p) = make_at period_of rs i p at_i in
    let there : slice_get ps j ≡ Some (period_of q) = make_at period_of rs j q at_j in
    let hp : HandsItsLines (period_of p) = hands_at ps i (period_of p) (all_hand ps life) here in
    let hq : HandsItsLines (period_of q) = hands_at ps j (period_of q) (all_hand ps life) there in
    let u = handed_among p (all i p at_i) a v at_v k (n, one) x in
    let z = handed_among q (all j q at_j) b w at_w l (m, other) y in
    let above_p : claimed_before (period_of p) < n = hp.above u.0 n one u.1 in
    let within_p : n ≤ claimed_after (period_of p) = hp.within u.0 n one u.1 in
    let above_q : claimed_before (period_of q) < m = hq.above z.0 m other z.1 in
    let rise : base_behind (base_at 0 ps i) (period_of p) ≤ base_at 0 ps j = bases_rise 0 ps i j (period_of p) lt here in
    omega (arith, above_p, within_p, above_q, rise)
