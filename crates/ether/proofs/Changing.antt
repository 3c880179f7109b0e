-- Each change of one node's view, as a step makes it, keeps the rule.
use Rattle.std.proofs.Common.{◌≡◌, ◌≢◌, ℕ, zero, suc, ◌+◌, ◌<◌, ◌≤◌, ◌^◌, ◌⊎◌, inr, ⊎_elim, Bool, true, cond, ltb, List, [], ◌∷◌, length, length-set, set, Some, sym, ap, ◌∙◌, subst, arith, lt-ltb, le-ltb, le_refl}
use mathlib.Core.Option.{some, some-injective, some-ne-none}
use mathlib.Core.Logic.{dite}
use native.Mathlib.Decide.{dec_lt, ℕ_discrete}
use lib.ListN.{get_elem?}
use Rattle.atomic_table.proofs.Lists.{at_set, set_here, set_else}
use Rattle.raft_log.specs.declared.message.Message.{Message}
use Rattle.raft_log.specs.Lists.{item}
use Rattle.raft_node.specs.Machine.{Machine}
use Rattle.world_views.specs.declared.envelope.Envelope.{Envelope}
use Rattle.world_views.specs.Own.{EventOf, ViewOf, state_at}
use Rattle.world_views.specs.Rule.{IsRun, IsRule, Stands}
use Rattle.world_views.specs.Views.{View, RisesFrom, brings, draws, sender, total, Drew}
use Rattle.world_views.proofs.Runs.{later}

pub below_length : {A : Type 0} (l : List A) (i : ℕ) (a : A) → get_elem? l i ≡ some a → i < length l
below_length [] i a e = absurd (some-ne-none a (sym e))
below_length (x ∷ xs) zero a e = omega arith
below_length (x ∷ xs) (suc i) a e = let r = below_length xs i a e in omega arith

pub same_at : {A : Type 0} (l : List A) (i : ℕ) (a b : A) → get_elem? l i ≡ some a → get_elem? l i ≡ some b → a ≡ b
same_at l i a b e f = some-injective a b (sym e ∙ f)

total_set : {B L T : Type 0} (vs : List (View B L T)) (i : ℕ) (v w : View B L T) → get_elem? vs i ≡ some v → total (set vs i w) + draws v ≡ total vs + draws w
total_set [] i v w e = absurd (some-ne-none v (sym e))
total_set (x ∷ xs) zero v w e = let same : draws x ≡ draws v = ap draws (some-injective x v e) in omega arith
total_set (x ∷ xs) (suc i) v w e = let r = total_set xs i v w e in omega arith

module _ (M : Machine) where
  -- what a change of the view v of node i to w has to bring, if the next ticket becomes `next'`
  pub record Changes (vs : List (ViewOf M)) (next next' i : ℕ) (v w : ViewOf M) : Type 0 where
    pub up : next ≤ next'
    pub keeps : (t : ℕ) → Drew v t → Drew w t
    pub adds : (t : ℕ) → Drew w t → Drew v t ⊎ ((next ≤ t) × (t < next'))
    pub new : (t : ℕ) → next ≤ t → t < next' → Drew w t
    pub draws_more : draws w + next ≡ draws v + next'
    pub rises : RisesFrom w.opened w.turns
    pub few : length w.turns ≤ 2 ^ 60
    pub node : w.node ≡ v.node
    pub size : w.size ≡ v.size
    pub honest : w.honest ≡ true → v.honest ≡ true
    pub own : IsRun M w
    pub grows : (d d' k : ℕ) (m : Message M.Body) → d ≤ next → d ≤ d' → item (state_at M d v).sent k ≡ Some m → item (state_at M d' w).sent k ≡ Some m
    pub heard : (k : ℕ) (e : Envelope M.Body) → get_elem? w.heard k ≡ some e → (get_elem? v.heard k ≡ some e) ⊎ (Stands M vs next e × (e.message.to ≡ suc i))
    pub delivered : (k d : ℕ) (x : EventOf M) (e : Envelope M.Body) → get_elem? w.turns k ≡ some (d, x) → brings x ≡ Some e
        → (get_elem? v.turns k ≡ some (d, x)) ⊎ ((d ≡ next) × Stands M vs next e × (e.message.to ≡ suc i))

module _ (M : Machine) (vs : List (ViewOf M)) (next next' i : ℕ) (v w : ViewOf M) (at : get_elem? vs i ≡ some v) (c : Changes M vs next next' i v w) where
  pub still_stands : (d d' : ℕ) (e : Envelope M.Body) → d ≤ next → d ≤ d' → Stands M vs d e → Stands M (set vs i w) d' e
  still_stands d d' e low le s =
      dite (ℕ_discrete (sender e) i)
      (λ (here : sender e ≡ i).
      let is : v ≡ s.by = same_at vs i v s.by at (subst (λ (j : ℕ). get_elem? vs j ≡ some s.by) here s.at) in
      record {
        by = w;
        named = s.named;
        at = subst (λ (j : ℕ). get_elem? (set vs i w) j ≡ some w) (sym here) (set_here vs i w (below_length vs i v at));
        sent = λ h. c.grows d d' e.number e.message low le (subst (λ (x : ViewOf M). item (state_at M d x).sent e.number ≡ Some e.message) (sym is) (s.sent (ap (λ (x : ViewOf M). x.honest) (sym is) ∙ c.honest h)));
      })
      (λ other. record { by = s.by; named = s.named; at = set_else vs i (sender e) w other ∙ s.at; sent = λ h. later M d d' s.by e.number e.message le (s.sent h) })

  pub changed : (n : ℕ) → IsRule M n next vs → IsRule M n next' (set vs i w)
  changed n a =
      record {
        sized = length-set vs i w ∙ a.sized;
        placed = λ j x e. ⊎_elim
            (λ (here : (j ≡ i) × (w ≡ x)). (ap (λ (y : ViewOf M). y.node) (sym here.1) ∙ c.node ∙ (a.placed i v at).0 ∙ sym here.0, ap (λ (y : ViewOf M). y.size) (sym here.1) ∙ c.size ∙ (a.placed i v at).1))
            (λ (there : (j ≢ i) × (get_elem? vs j ≡ some x)). a.placed j x there.1) (at_set vs i j w x e);
        tickets = record {
          who = who';
          drawn = λ t lt. dite (dec_lt t next)
              (λ (old : t < next).
              let r = a.tickets.drawn t old in
              let is : who' t ≡ a.tickets.who t = ap (λ (b : Bool). cond b (a.tickets.who t) i) (lt-ltb t next old) in
              subst (λ (j : ℕ). (x : ViewOf M) × (get_elem? (set vs i w) j ≡ some x) × Drew x t) (sym is) (drew_still (a.tickets.who t) t r.0 r.1 r.2))
              (λ late.
              let le : next ≤ t = omega arith in
              let is : who' t ≡ i = ap (λ (b : Bool). cond b (a.tickets.who t) i) (le-ltb t next le) in
              subst (λ (j : ℕ). (x : ViewOf M) × (get_elem? (set vs i w) j ≡ some x) × Drew x t) (sym is) (w, set_here vs i w (below_length vs i v at), c.new t le lt));
          once = λ j t x e d. ⊎_elim
              (λ (here : (j ≡ i) × (w ≡ x)). ⊎_elim
              (λ (old : Drew v t). let r = a.tickets.once i t v at old in is_old t r.0 j (r.1 ∙ sym here.0))
              (λ (late : (next ≤ t) × (t < next')). (late.1, ap (λ (b : Bool). cond b (a.tickets.who t) i) (le-ltb t next late.0) ∙ sym here.0))
              (c.adds t (subst (λ (y : ViewOf M). Drew y t) (sym here.1) d)))
              (λ (there : (j ≢ i) × (get_elem? vs j ≡ some x)). let r = a.tickets.once j t x there.1 d in is_old t r.0 j r.1)
              (at_set vs i j w x e);
          rises = each (λ (x : ViewOf M). RisesFrom x.opened x.turns) a.tickets.rises c.rises;
          counted = let s = total_set vs i v w at in let b = c.draws_more in let n = a.tickets.counted in omega arith;
          few = each (λ (x : ViewOf M). length x.turns ≤ 2 ^ 60) a.tickets.few c.few;
        };
        own = each (IsRun M) a.own c.own;
        messages = record {
          heard = λ j k x e at_x h. ⊎_elim
              (λ (here : (j ≡ i) × (w ≡ x)). ⊎_elim
              (λ (old : get_elem? v.heard k ≡ some e). let r = a.messages.heard i k v e at old in (still_stands next next' e (le_refl next) c.up r.0, r.1 ∙ ap suc (sym here.0)))
              (λ (new : Stands M vs next e × (e.message.to ≡ suc i)). (still_stands next next' e (le_refl next) c.up new.0, new.1 ∙ ap suc (sym here.0)))
              (c.heard k e (subst (λ (y : ViewOf M). get_elem? y.heard k ≡ some e) (sym here.1) h)))
              (λ (there : (j ≢ i) × (get_elem? vs j ≡ some x)). let r = a.messages.heard j k x e there.1 h in (still_stands next next' e (le_refl next) c.up r.0, r.1))
              (at_set vs i j w x at_x);
          delivered = λ j k d x y e at_x h b. ⊎_elim
              (λ (here : (j ≡ i) × (w ≡ x)). ⊎_elim
              (λ (old : get_elem? v.turns k ≡ some (d, y)). let r = a.messages.delivered i k d v y e at old b in (still_stands d d e (early i d k v y at old) (le_refl d) r.0, r.1 ∙ ap suc (sym here.0)))
              (λ (new : (d ≡ next) × Stands M vs next e × (e.message.to ≡ suc i)). (still_stands_at d e new.0 new.1, new.2 ∙ ap suc (sym here.0)))
              (c.delivered k d y e (subst (λ (z : ViewOf M). get_elem? z.turns k ≡ some (d, y)) (sym here.1) h) b))
              (λ (there : (j ≢ i) × (get_elem? vs j ≡ some x)). let r = a.messages.delivered j k d x y e there.1 h b in (still_stands d d e (early j d k x y there.1 h) (le_refl d) r.0, r.1))
              (at_set vs i j w x at_x);
        };
      }
    where
      who' : ℕ → ℕ
      who' t = cond (ltb t next) (a.tickets.who t) i

      drew_still : (j t : ℕ) (x : ViewOf M) → get_elem? vs j ≡ some x → Drew x t → (y : ViewOf M) × (get_elem? (set vs i w) j ≡ some y) × Drew y t
      drew_still j t x e d =
          dite (ℕ_discrete j i)
          (λ (here : j ≡ i). (
            w,
            subst (λ (k : ℕ). get_elem? (set vs i w) k ≡ some w) (sym here) (set_here vs i w (below_length vs i v at)),
            c.keeps t (subst (λ (y : ViewOf M). Drew y t) (same_at vs i x v (subst (λ (k : ℕ). get_elem? vs k ≡ some x) here e) at) d),
          ))
          (λ other. (x, set_else vs i j w other ∙ e, d))

      is_old : (t : ℕ) → t < next → (j : ℕ) → a.tickets.who t ≡ j → (t < next') × (who' t ≡ j)
      is_old t lt j e = let u = c.up in (omega arith, ap (λ (b : Bool). cond b (a.tickets.who t) i) (lt-ltb t next lt) ∙ e)

      each : (P : ViewOf M → Type 0) → ((j : ℕ) (x : ViewOf M) → get_elem? vs j ≡ some x → P x) → P w → (j : ℕ) (x : ViewOf M) → get_elem? (set vs i w) j ≡ some x → P x
      each P all here j x e = ⊎_elim (λ (h : (j ≡ i) × (w ≡ x)). subst P h.1 here) (λ (h : (j ≢ i) × (get_elem? vs j ≡ some x)). all j x h.1) (at_set vs i j w x e)

      early : (j d k : ℕ) (x : ViewOf M) (y : EventOf M) → get_elem? vs j ≡ some x → get_elem? x.turns k ≡ some (d, y) → d ≤ next
      early j d k x y e h = let r = a.tickets.once j d x e (inr (k, y, h)) in let lt = r.0 in omega arith

      still_stands_at : (d : ℕ) (e : Envelope M.Body) → d ≡ next → Stands M vs next e → Stands M (set vs i w) d e
      still_stands_at d e same s = subst (λ (z : ℕ). Stands M (set vs i w) z e) (sym same) (still_stands next next e (le_refl next) (le_refl next) s)
