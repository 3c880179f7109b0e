-- Each kind of step changes its view so that the rule is kept.
use Rattle.std.proofs.Common.{◌≡◌, ℕ, zero, suc, pred, ◌+◌, ◌<◌, ◌^◌, inl, inr, ⊎_elim, Bool, true, List, [], ◌∷◌, ◌++◌, length, Option, Some, None, refl, sym, ap, ◌∙◌, subst, arith, length-append, le_refl}
use mathlib.Core.Option.{some, some-injective, some-ne-none}
use lib.ListN.{get_elem?}
use Rattle.atomic_table.proofs.Lists.{at_longer, at_last, at_snoc}
use Rattle.raft_log.specs.declared.message.Message.{Message}
use Rattle.raft_log.specs.Lists.{item}
use Rattle.raft_log.specs.Node.{Node}
use Rattle.raft_node.specs.Machine.{Machine}
use Rattle.world_views.specs.declared.envelope.Envelope.{Envelope}
use Rattle.world_views.specs.Own.{EventOf, TurnOf, ViewOf, own_state, run, runs}
use Rattle.world_views.specs.Rule.{IsRule, Stands}
use Rattle.world_views.specs.Views.{OpenedAt, Rises, RisesFrom, brings, opening_count, sender, start, start_from, upto}
use Rattle.ether.specs.Plays.{after_opening, after_event, after_post, after_take}
use Rattle.world_views.proofs.Runs.{run-append, later}
use Rattle.world_views.proofs.Tickets.{rises_snoc, upto_before}
use Rattle.ether.proofs.Changing.{Changes}

module _ {B : Type 0} where
  start_same : (s s' : Node B) (o : Option (ℕ × Node B)) (b : ℕ × Node B) → o ≡ Some b → start_from s o ≡ start_from s' o
  start_same s s' None b h = cc
  start_same s s' (Some c) b h = refl

  item_none : (k : ℕ) (m : Message B) → item [] k ≡ Some m → ⊥
  item_none zero m h = cc h
  item_none (suc k) m h = cc h

pub nothing_there : {A : Type 0} (l : List A) (k : ℕ) (x : A) → l ≡ [] → get_elem? l k ≡ some x → ⊥
nothing_there {A} l k x none h = some-ne-none x (sym (subst (λ (m : List A). get_elem? m k ≡ some x) none h))

module _ (M : Machine) where
  run_turn : (n i : ℕ) (s s' : Node M.Body) (o : Option (ℕ × Node M.Body)) (b : ℕ × Node M.Body) (ts : List (TurnOf M)) (t : ℕ) (e : EventOf M)
      → o ≡ Some b → s ≡ run M n i (start_from s o) ts → own_state M n i s e ≡ run M n i (start_from s' o) (ts ++ (t, e) ∷ [])
  run_turn n i s s' None b ts t e h is = cc
  run_turn n i s s' (Some c) b ts t e h is = ap (λ (x : Node M.Body). own_state M n i x e) is ∙ sym (run-append M n i c.1 ts ((t, e) ∷ []))

  rises_from_snoc : (o : Option (ℕ × Node M.Body)) (b : ℕ × Node M.Body) (ts : List (TurnOf M)) (n : ℕ) (e : EventOf M) → o ≡ Some b → RisesFrom o ts
      → ((t : ℕ) → OpenedAt o t → t < n) → ((k d : ℕ) (x : EventOf M) → get_elem? ts k ≡ some (d, x) → d < n) → RisesFrom o (ts ++ (n, e) ∷ [])
  rises_from_snoc None b ts n e h r first all = cc
  rises_from_snoc (Some c) b ts n e h r first all = rises_snoc c.0 ts n e r (first c.0 refl) all

  no_turns : (o : Option (ℕ × Node M.Body)) (ts : List (TurnOf M)) → o ≡ None → RisesFrom o ts → ts ≡ []
  no_turns None ts h r = r
  no_turns (Some c) ts h r = cc

module _ (M : Machine) (n : ℕ) (vs : List (ViewOf M)) (next i : ℕ) (v : ViewOf M) (at : get_elem? vs i ≡ some v) (a : IsRule M n next vs) where
  pub event_changes : (b : ℕ × Node M.Body) (e : EventOf M) → v.opened ≡ Some b → length v.turns < 2 ^ 60
      → ((m : Envelope M.Body) → brings e ≡ Some m → (k : ℕ) × (get_elem? v.heard k ≡ some m)) → Changes M vs next (next + 1) i v (after_event M v next e)
  event_changes b e opened few may =
      let r = a.own i v at in
      let w : ViewOf M = after_event M v next e in
      let same : start v ≡ start w = start_same v.state w.state v.opened b opened in
      record {
        up = omega arith;
        keeps = λ t d. ⊎_elim (λ o. inl o) (λ (x : (k : ℕ) × (y : EventOf M) × (get_elem? v.turns k ≡ some (t, y))). inr (x.0, x.1, at_longer v.turns ((next, e) ∷ []) x.0 (t, x.1) x.2)) d;
        adds = λ t d. ⊎_elim (λ o. inl (inl o)) (λ (x : (k : ℕ) × (y : EventOf M) × (get_elem? w.turns k ≡ some (t, y))). ⊎_elim (λ old. inl (inr (x.0, x.1, old)))
            (λ (new : (next, e) ≡ (t, x.1)). let is : next ≡ t = ap (λ (y : TurnOf M). y.0) new in inr (omega arith, omega arith)) (at_snoc v.turns (next, e) (t, x.1) x.0 x.2)) d;
        new = λ t le lt. let is : next ≡ t = omega arith in inr (length v.turns, e, subst (λ (z : ℕ). get_elem? w.turns (length v.turns) ≡ some (z, e)) is (at_last v.turns (next, e) (length v.turns) refl));
        draws_more = let l = length-append v.turns ((next, e) ∷ []) in omega arith;
        rises = rises_from_snoc M v.opened b v.turns next e opened (a.tickets.rises i v at) (λ t o. (a.tickets.once i t v at (inl o)).0) (λ k d x h. (a.tickets.once i d v at (inr (k, x, h))).0);
        few = let l = length-append v.turns ((next, e) ∷ []) in omega arith;
        node = refl;
        size = refl;
        honest = λ x. x;
        own = record {
          state = run_turn M v.size (suc v.node) v.state w.state v.opened b v.turns next e opened r.state;
          fresh = ap (λ (s : Node M.Body). s.sent) (sym same) ∙ r.fresh;
          unopened = r.unopened;
        };
        grows = λ d d' k m low le h. later M d d' w k m le (subst (λ (s : Node M.Body). item s.sent k ≡ Some m)
            (ap (λ (s : Node M.Body). runs M v s (upto d v.turns)) same ∙ ap (runs M v (start w)) (sym (upto_before d next e v.turns low))) h);
        heard = λ k m h. inl h;
        delivered = λ k d x m h b. ⊎_elim (λ old. inl old)
            (λ (new : (next, e) ≡ (d, x)).
            let had = may m (ap (λ (y : TurnOf M). brings y.1) new ∙ b) in
            let s = a.messages.heard i had.0 v m at had.1 in
            inr (ap (λ (y : TurnOf M). y.0) (sym new), s.0, s.1))
            (at_snoc v.turns (next, e) (d, x) k h);
      }

  pub opening_changes : (h : Bool) (s : Node M.Body) → v.opened ≡ None → s.sent ≡ [] → Changes M vs next (next + 1) i v (after_opening v next h s)
  opening_changes h s closed fresh =
      let r = a.own i v at in
      let w : ViewOf M = after_opening v next h s in
      let empty : v.turns ≡ [] = no_turns M v.opened v.turns closed (a.tickets.rises i v at) in
      record {
        up = omega arith;
        keeps = λ t d. ⊎_elim (λ o. absurd (subst (λ (b : Option (ℕ × Node M.Body)). OpenedAt b t) closed o)) (λ (x : (k : ℕ) × (y : EventOf M) × (get_elem? v.turns k ≡ some (t, y))). absurd (nothing_there v.turns x.0 (t, x.1) empty x.2)) d;
        adds = λ t d. ⊎_elim (λ (o : next ≡ t). inr (omega arith, omega arith)) (λ (x : (k : ℕ) × (y : EventOf M) × (get_elem? v.turns k ≡ some (t, y))). absurd (nothing_there v.turns x.0 (t, x.1) empty x.2)) d;
        new = λ t le lt. let is : next ≡ t = omega arith in inl is;
        draws_more = let z : opening_count v.opened ≡ 0 = ap opening_count closed in omega arith;
        rises = subst (Rises next) (sym empty) tt;
        few = let z : length v.turns ≡ 0 = ap length empty in omega arith;
        node = refl;
        size = refl;
        honest = λ _. r.unopened closed;
        own = record {
          state = ap (runs M v s) (sym empty);
          fresh = fresh;
          unopened = λ none. cc;
        };
        grows = λ d d' k m low le h. absurd (item_none k m (subst (λ (l : List (Message M.Body)). item l k ≡ Some m) (ap (λ (ts : List (TurnOf M)). (runs M v (start v) (upto d ts)).sent) empty ∙ r.fresh) h));
        heard = λ k m h. inl h;
        delivered = λ k d x m h b. inl h;
      }

  pub take_changes : (e : Envelope M.Body) → Stands M vs next e → e.message.to ≡ suc i → Changes M vs next next i v (after_take v (Some e))
  take_changes e stands to =
      let r = a.own i v at in
      record {
        up = le_refl next;
        keeps = λ t d. d;
        adds = λ t d. inl d;
        new = λ t le lt. absurd (omega arith);
        draws_more = refl;
        rises = a.tickets.rises i v at;
        few = a.tickets.few i v at;
        node = refl;
        size = refl;
        honest = λ x. x;
        own = record { state = r.state; fresh = r.fresh; unopened = r.unopened };
        grows = λ d d' k m low le h. later M d d' v k m le h;
        heard = λ k m h. ⊎_elim (λ old. inl old)
            (λ (new : e ≡ m). inr (subst (λ (x : Envelope M.Body). Stands M vs next x) new stands, ap (λ (x : Envelope M.Body). x.message.to) (sym new) ∙ to)) (at_snoc v.heard e m k h);
        delivered = λ k d x m h b. inl h;
      }

  pub nothing_changes : Changes M vs next next i v v
  nothing_changes =
      record {
        up = le_refl next;
        keeps = λ t d. d;
        adds = λ t d. inl d;
        new = λ t le lt. absurd (omega arith);
        draws_more = refl;
        rises = a.tickets.rises i v at;
        few = a.tickets.few i v at;
        node = refl;
        size = refl;
        honest = λ x. x;
        own = a.own i v at;
        grows = λ d d' k m low le h. later M d d' v k m le h;
        heard = λ k m h. inl h;
        delivered = λ k d x m h b. inl h;
      }

  pub post_changes : (number : ℕ) → Changes M vs next next i v (after_post v number)
  post_changes number =
      let r = a.own i v at in
      record {
        up = le_refl next;
        keeps = λ t d. d;
        adds = λ t d. inl d;
        new = λ t le lt. absurd (omega arith);
        draws_more = refl;
        rises = a.tickets.rises i v at;
        few = a.tickets.few i v at;
        node = refl;
        size = refl;
        honest = λ x. x;
        own = record { state = r.state; fresh = r.fresh; unopened = r.unopened };
        grows = λ d d' k m low le h. later M d d' v k m le h;
        heard = λ k m h. inl h;
        delivered = λ k d x m h b. inl h;
      }

  -- what the node sent stands
  pub own_stands : (e : Envelope M.Body) → e.message.from ≡ suc i → (v.honest ≡ true → item v.state.sent e.number ≡ Some e.message) → upto next v.turns ≡ v.turns → Stands M vs next e
  own_stands e from sent whole =
      let r = a.own i v at in
      record {
        by = v;
        named = from ∙ ap suc (sym (ap pred from));
        at = subst (λ (j : ℕ). get_elem? vs j ≡ some v) (sym (ap pred from)) at;
        sent = λ h. subst (λ (s : Node M.Body). item s.sent e.number ≡ Some e.message) (r.state ∙ ap (runs M v (start v)) (sym whole)) (sent h);
      }

  -- and what stands with the node, it sent
  pub own_sent : (e : Envelope M.Body) → Stands M vs next e → sender e ≡ i → upto next v.turns ≡ v.turns → v.honest ≡ true → item v.state.sent e.number ≡ Some e.message
  own_sent e stands from whole h =
      let is : stands.by ≡ v = same stands.by (subst (λ (j : ℕ). get_elem? vs j ≡ some stands.by) from stands.at) in
      let sent = stands.sent (ap (λ (x : ViewOf M). x.honest) is ∙ h) in
      let r = a.own i v at in
      subst (λ (s : Node M.Body). item s.sent e.number ≡ Some e.message)
      (ap (λ (x : ViewOf M). runs M x (start x) (upto next x.turns)) is ∙ ap (runs M v (start v)) whole ∙ sym r.state) sent
    where
      same : (x : ViewOf M) → get_elem? vs i ≡ some x → x ≡ v
      same x h = some-injective x v (sym h ∙ at)
