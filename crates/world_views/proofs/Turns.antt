-- Each turn of a view, with what came out of it, is an event of the one history.
use Rattle.std.proofs.Common.{◌≡◌, ℕ, zero, suc, ◌+◌, Bool, true, false, cond, eqb, List, [], ◌∷◌, ◌++◌, length, take, Option, Some, None, refl, sym, ap, ◌∙◌, subst, arith}
use Rattle.std.specs.Prelude.{pred}
use Rattle.std.proofs.lemmas.Bool.{eqb-true}
use mathlib.Core.Option.{some, some-injective, some-ne-none}
use lib.ListN.{get_elem?}
use Rattle.raft_log.specs.Lists.{item}
use Rattle.raft_log.specs.Node.{Node}
use Rattle.raft_node.specs.Machine.{Machine}
use Rattle.raft_node.specs.Sound.{sent_first}
use Rattle.raft_node.specs.Steps.{Out, Left, Looked}
use Rattle.agreement.specs.World as core
use Rattle.world_run.specs.World.{Event, moment, outputs}
use Rattle.world_run.proofs.Answers.{looks_are_faithful, apply_is_faithful}
use Rattle.world_views.specs.declared.node_event.NodeEvent.TheVariants.{Does, Look}
use Rattle.raft_node.specs.declared.input.Input.TheVariants.{Apply}
use Rattle.world_views.specs.Views.{RisesFrom, start}
use Rattle.world_views.specs.Own.{TurnOf, ViewOf, runs}
use Rattle.world_views.specs.Rule.{IsRule}
use Rattle.world_views.specs.Merged.{PlacedOf, turns_of}
use Rattle.world_views.specs.Openings.{sent_in, event_in, events_in, first_world, whole, IsNow}
use Rattle.world_views.specs.Outputs.{outs_at}
use Rattle.world_views.specs.Laws.{TurnsAreEvents, LooksAreAgreed, AppliesAreAgreed}
use Rattle.world_views.proofs.Places.{got, at_map}
use Rattle.world_views.proofs.Histories.{item_past}
use Rattle.world_views.proofs.Along.{outs_length}

module _ (M : Machine) where
  -- the place of a node's turn among the events of all, with what came out of it
  record Found (i m : ℕ) (es : List (PlacedOf M)) (outs : List (Out M)) (t : TurnOf M) (o : Out M) : Type 0 where
    place : ℕ
    event : PlacedOf M
    at : get_elem? es place ≡ some event
    node : event.0 ≡ i
    turn : event.1 ≡ t
    out : get_elem? outs place ≡ some o
    front : turns_of i (take place es) ≡ take m (turns_of i es)

  find : (i m : ℕ) (es : List (PlacedOf M)) (outs : List (Out M)) (t : TurnOf M) (o : Out M) → get_elem? (turns_of i es) m ≡ some t → get_elem? (outs_at M i es outs) m ≡ some o → Found i m es outs t o
  find i m [] outs t o h k = absurd (some-ne-none t (sym h))
  find i m (e ∷ es) [] t o h k = absurd (some-ne-none o (sym k))
  find i m (e ∷ es) (x ∷ outs) t o h k = by_node (eqb e.0 i) refl m h k (λ m' h' k'. find i m' es outs t o h' k')
    where
      by_node : (b : Bool) → eqb e.0 i ≡ b → (m : ℕ) → get_elem? (cond b (e.1 ∷ turns_of i es) (turns_of i es)) m ≡ some t → get_elem? (cond b (x ∷ outs_at M i es outs) (outs_at M i es outs)) m ≡ some o
          → ((m' : ℕ) → get_elem? (turns_of i es) m' ≡ some t → get_elem? (outs_at M i es outs) m' ≡ some o → Found i m' es outs t o)
          → Found i m (e ∷ es) (x ∷ outs) t o
      by_node true q zero h k more =
          record { place = 0; event = e; at = refl; node = eqb-true e.0 i q; turn = some-injective e.1 t h; out = k; front = refl }
      by_node true q (suc m') h k more =
          let f = more m' h k in
          record {
            place = suc f.place;
            event = f.event;
            at = f.at;
            node = f.node;
            turn = f.turn;
            out = f.out;
            front =
                ap (λ (b : Bool). cond b (e.1 ∷ turns_of i (take f.place es)) (turns_of i (take f.place es))) q
                ∙ ap (λ (l : List (TurnOf M)). e.1 ∷ l) f.front
                ∙ sym (ap (λ (b : Bool). take (suc m') (cond b (e.1 ∷ turns_of i es) (turns_of i es))) q);
          }
      by_node false q m h k more =
          let f = more m h k in
          record {
            place = suc f.place;
            event = f.event;
            at = f.at;
            node = f.node;
            turn = f.turn;
            out = f.out;
            front =
                ap (λ (b : Bool). cond b (e.1 ∷ turns_of i (take f.place es)) (turns_of i (take f.place es))) q
                ∙ f.front
                ∙ sym (ap (λ (b : Bool). take m (cond b (e.1 ∷ turns_of i es) (turns_of i es))) q);
          }

  pub turns_are_events : (before : List (Event M)) (views : List (ViewOf M)) → TurnsAreEvents M before views
  turns_are_events before views es h i m v t o at_v at_t at_o =
      let f = find i m es h.outs t o (subst (λ (l : List (TurnOf M)). get_elem? l m ≡ some t) (sym (h.merged.records i v at_v)) at_t) (subst (λ (l : List (Out M)). get_elem? l m ≡ some o) (sym (h.own_outs i v at_v)) at_o) in
      let w : List (Node M.Body) = first_world M before views in
      let is : event_in M w (suc f.event.0) f.event.1.1 ≡ event_in M w (suc i) t.1 = (λ d. event_in M w (suc (f.node d)) (f.turn d).1) in
      let event_at : item (events_in M w es) (suc f.place) ≡ Some (event_in M w (suc i) t.1) =
      got (events_in M w es) f.place (event_in M w (suc f.event.0) f.event.1.1) (at_map (λ e. event_in M w (suc e.0) e.1.1) es f.place f.event f.at)
      ∙ ap (λ (y : Event M). let q : Option (Event M) = Some y in q) is in
      let long : length (outputs M (length views) before) ≡ length before = outs_length M before (core.start (length views)) in
      let out_at : item (outputs M (length views) before ++ h.outs) (length (outputs M (length views) before) + suc f.place) ≡ Some o =
      item_past (outputs M (length views) before) h.outs (suc f.place) o (got h.outs f.place o f.out) in
      let last : pred (length before + suc f.place) ≡ length before + f.place = ap pred (let z : length before + suc f.place ≡ suc (length before + f.place) = omega arith in z) in
      let turns : turns_of i (take f.place es) ≡ take m v.turns = f.front ∙ ap (take m) (h.merged.records i v at_v) in
      record {
        place = length before + suc f.place;
        event = item_past before (events_in M w es) (suc f.place) (event_in M w (suc i) t.1) event_at;
        out = (λ d. item (h.comes_out d) (sym long d + suc f.place)) ∙ out_at;
        state = subst (λ (z : ℕ × List (TurnOf M)). IsNow M w (moment M (length views) (whole M before views es) z.0) (suc i) (runs M v (start v) z.1) v.opened)
            (λ d. (sym last d, turns d)) (h.moments f.place i v at_v);
      }

  pub looks_are_agreed : (before : List (Event M)) (views : List (ViewOf M)) → LooksAreAgreed M before views
  looks_are_agreed before views es h i m d from place target lines v at_v at_t at_o =
      let e = turns_are_events before views es h i m v (d, Look from target) (Looked place lines) at_v at_t at_o in
      let r = looks_are_faithful M (length views) (whole M before views es) e.place (suc i) from place target lines e.event e.out in
      record { late = r.0; within = r.1; played = r.2 }

  -- the node at a moment is that of the view, except for what was sent
  now_is : (w u : List (Node M.Body)) (i : ℕ) (s : Node M.Body) (o : Option (ℕ × Node M.Body)) (ts : List (TurnOf M)) (m : ℕ) (t : TurnOf M) → RisesFrom o ts → get_elem? ts m ≡ some t
      → IsNow M w u i s o → item u i ≡ Some (sent_first (sent_in w i) s)
  now_is w u i s None ts m t r at n = absurd (some-ne-none t (sym (subst (λ (l : List (TurnOf M)). get_elem? l m ≡ some t) r at)))
  now_is w u i s (Some b) ts m t r at n = n

  pub applies_are_agreed : (n next : ℕ) (before : List (Event M)) (views : List (ViewOf M)) → IsRule M n next views → AppliesAreAgreed M before views
  applies_are_agreed n next before views a es h i m d place effects v at_v at_t at_o =
      let e = turns_are_events before views es h i m v (d, Does Apply) (Left place effects) at_v at_t at_o in
      let w : List (Node M.Body) = first_world M before views in
      let s : Node M.Body = runs M v (start v) (take m v.turns) in
      let r =
      apply_is_faithful M (length views) (whole M before views es) e.place (suc i) place effects (sent_first (sent_in w (suc i)) s) e.event
      (now_is w (moment M (length views) (whole M before views es) (pred e.place)) (suc i) s v.opened v.turns m (d, Does Apply) (a.tickets.rises i v at_v) at_t e.state)
      e.out in
      record { entry = r.0; stands = r.1; left = r.2 }
