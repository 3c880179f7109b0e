-- The merged record of all views, each turn with what came out of it, is the record of a run of the group.
use Rattle.std.proofs.Common.{◌≡◌, ℕ, suc, ◌<◌, ◌≤◌, ⊎_elim, Bool, true, false, cond, eqb, List, [], ◌∷◌, ◌++◌, map, length, refl, sym, ap, ◌∙◌, subst, arith, length-append, eq-eqb, ne_eqb}
use Rattle.std.proofs.lemmas.Bool.{cases_lt}
use lib.ListN.{length-map}
use Rattle.raft_log.specs.Node.{Node}
use Rattle.raft_node.specs.Machine.{Machine}
use Rattle.raft_node.specs.Steps.{Out}
use Rattle.agreement.specs.World as core
use Rattle.world_run.specs.World.{Event, outputs}
use Rattle.world_views.specs.Own.{TurnOf, ViewOf}
use Rattle.world_views.specs.Rule.{IsRule, AreHonest}
use Rattle.world_views.specs.Merged.{PlacedOf, Leads, still, on, turns_of, start_in, end_in}
use Rattle.world_views.specs.Openings.{OpenedAfter, idle_in, event_in, events_in, first_world, whole}
use Rattle.world_views.specs.Outputs.{outs_at, IsHistory, IsRecord}
use Rattle.world_views.specs.Laws.{RecordsReplay}
use Rattle.world_views.proofs.Places.{below, there}
use Rattle.world_views.proofs.Tickets.{turns-append}
use Rattle.world_views.proofs.Unique.{only_one}
use Rattle.world_views.proofs.Histories.{leads_length}
use Rattle.world_views.proofs.Along.{outs_length}
use Rattle.world_views.proofs.Openings as opened

module _ (M : Machine) where
  -- the events are of nodes that are there
  leads_within : (w : List (Node M.Body)) (es : List (PlacedOf M)) (v : List (Node M.Body)) → Leads M w es v → (i : ℕ) → length w ≤ i → turns_of i es ≡ []
  leads_within w es v still i le = refl
  leads_within w fs u (on {es = es} {v = v} e l st) i le =
      let lt : e.0 < length v = below v e.0 st.1.0 st.1.1 in
      let long : length v ≡ length w = leads_length M w es v l in
      turns-append i es (e ∷ [])
      ∙ ap (λ (ts : List (TurnOf M)). ts ++ cond (eqb e.0 i) (e.1 ∷ []) []) (leads_within w es v l i le)
      ∙ ap (λ (b : Bool). cond b (e.1 ∷ []) []) (ne_eqb e.0 i (λ z. omega (arith, lt, long, le, z)))

  -- a node with no turns brings nothing out
  none_out : (i : ℕ) (es : List (PlacedOf M)) (outs : List (Out M)) → turns_of i es ≡ [] → outs_at M i es outs ≡ []
  none_out i [] outs h = refl
  none_out i (e ∷ es) [] h = refl
  none_out i (e ∷ es) (o ∷ outs) h = by_node (none_out i es outs) (eqb e.0 i) h
    where
      by_node : (turns_of i es ≡ [] → outs_at M i es outs ≡ []) → (b : Bool) → cond b (e.1 ∷ turns_of i es) (turns_of i es) ≡ [] → cond b (o ∷ outs_at M i es outs) (outs_at M i es outs) ≡ []
      by_node more true k = absurd (cc k)
      by_node more false k = more k

  outs_tails : (x y : Out M) (xs ys : List (Out M)) → x ∷ xs ≡ y ∷ ys → xs ≡ ys
  outs_tails x y xs ys e = cc e

  outs_heads : (x y : Out M) (xs ys : List (Out M)) → x ∷ xs ≡ y ∷ ys → x ≡ y
  outs_heads x y xs ys e = cc e

  -- what comes out by each node makes up what comes out
  outs_one : (es : List (PlacedOf M)) (xs ys : List (Out M)) → length xs ≡ length es → length ys ≡ length es → ((i : ℕ) → outs_at M i es xs ≡ outs_at M i es ys) → xs ≡ ys
  outs_one [] [] [] p q same = refl
  outs_one [] [] (y ∷ ys) p q same = absurd (omega arith)
  outs_one [] (x ∷ xs) ys p q same = absurd (omega arith)
  outs_one (e ∷ es) [] ys p q same = absurd (omega arith)
  outs_one (e ∷ es) (x ∷ xs) [] p q same = absurd (omega arith)
  outs_one (e ∷ es) (x ∷ xs) (y ∷ ys) p q same =
      let first : x ≡ y = outs_heads x y (outs_at M e.0 es xs) (outs_at M e.0 es ys)
      (subst (λ (b : Bool). cond b (x ∷ outs_at M e.0 es xs) (outs_at M e.0 es xs) ≡ cond b (y ∷ outs_at M e.0 es ys) (outs_at M e.0 es ys)) (eq-eqb e.0 e.0 refl) (same e.0)) in
      let rest : xs ≡ ys = outs_one es xs ys (omega arith) (omega arith) (λ i. by_node i (eqb e.0 i) (same i)) in
      (λ d. first d ∷ rest d)
    where
      by_node : (i : ℕ) (b : Bool) → cond b (x ∷ outs_at M i es xs) (outs_at M i es xs) ≡ cond b (y ∷ outs_at M i es ys) (outs_at M i es ys) → outs_at M i es xs ≡ outs_at M i es ys
      by_node i true h = outs_tails x y (outs_at M i es xs) (outs_at M i es ys) h
      by_node i false h = h

  module _ (before : List (Event M)) (views : List (ViewOf M)) where
    -- as many come out as there are events
    long_outs : (es : List (PlacedOf M)) (h : IsHistory M before views es) → length h.outs ≡ length es
    long_outs es h =
        omega (
          arith,
          ap length h.comes_out,
          outs_length M (whole M before views es) (core.start (length views)),
          outs_length M before (core.start (length views)),
          length-append (outputs M (length views) before) h.outs,
          length-append before (events_in M (first_world M before views) es),
          length-map es (λ e. event_in M (first_world M before views) (suc e.0) e.1.1),
        )

    module _ (es : List (PlacedOf M)) (outs : List (Out M)) (r : IsRecord M views es outs) where
      turns_same : (fs : List (PlacedOf M)) → IsHistory M before views fs → (i : ℕ) → turns_of i es ≡ turns_of i fs
      turns_same fs h i =
          ⊎_elim
          (λ (lt : i < length views). let v = there views i lt in r.turns i v.0 v.1 ∙ sym (h.merged.records i v.0 v.1))
          (λ (le : length views ≤ i).
          let idle : ℕ → Node M.Body = idle_in (first_world M before views) in
          let long : length (map (start_in idle) views) ≤ i = let l : length (map (start_in idle) views) ≡ length views = length-map views (start_in idle) in omega arith in
          r.within i le ∙ sym (leads_within (map (start_in idle) views) fs (map (end_in idle) views) h.merged.leads i long))
          (cases_lt i (length views))

      outs_same : (h : IsHistory M before views es) → outs ≡ h.outs
      outs_same h =
          outs_one es outs h.outs r.long (long_outs es h)
          (λ i. ⊎_elim
          (λ (lt : i < length views). let v = there views i lt in r.own_outs i v.0 v.1 ∙ sym (h.own_outs i v.0 v.1))
          (λ (le : length views ≤ i). none_out i es outs (r.within i le) ∙ sym (none_out i es h.outs (r.within i le)))
          (cases_lt i (length views)))

  pub records_replay : (n next : ℕ) (before : List (Event M)) (views : List (ViewOf M)) → IsRule M n next views → AreHonest M views → OpenedAfter M before views → RecordsReplay M before views
  records_replay n next before views a honest openings es outs r =
      let found = opened.history M n next before views a honest openings in
      let is : es ≡ found.0 = only_one es found.0 r.in_order found.1.merged.in_order (turns_same before views es outs r found.0 found.1) in
      let h : IsHistory M before views es = subst (IsHistory M before views) (sym is) found.1 in
      (h, h.comes_out ∙ ap (λ (l : List (Out M)). outputs M (length views) before ++ l) (sym (outs_same before views es outs r h)))
