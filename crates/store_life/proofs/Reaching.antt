-- Worlds to which some events lead, and what one event leaves of the others.
use Rattle.std.proofs.Common.{◌≡◌, ℕ, zero, suc, List, [], ◌∷◌, ◌++◌, length, set, Option, Some, slice_get, refl, sym, ap, subst, ◌∙◌}
use Rattle.raft_log.specs.declared.message.Message.{Message}
use Rattle.raft_log.specs.Lists.{item, with_item}
use Rattle.raft_log.specs.Node.{Node}
use Rattle.raft_node.specs.Machine.{Machine}
use Rattle.raft_node.specs.Steps.{Own, Acts, Hears, Restarts, Expires, Beats, own, turn}
use Rattle.raft_node.proofs.Items.{length-with_item}
use Rattle.node_steps.specs.Messages.{on_message}
use Rattle.agreement.specs.World.{sent_of, to_of}
use Rattle.world_run.specs.World as world
use Rattle.world_run.specs.World.{Event, Input, run, happens}
use Rattle.world_views.proofs.Histories.{run-append}

item_set : {A : Type 0} (xs : List A) (i : ℕ) (x y : A) → slice_get xs i ≡ Some y → slice_get (set xs i x) i ≡ Some x
item_set [] i x y h = absurd (cc h)
item_set (z ∷ xs) zero x y h = refl
item_set (z ∷ xs) (suc i) x y h = item_set xs i x y h

other_set : {A : Type 0} (xs : List A) (i j : ℕ) (x : A) → (j ≡ i → ⊥) → slice_get (set xs i x) j ≡ slice_get xs j
other_set [] i j x h = refl
other_set (z ∷ xs) zero zero x h = absurd (h refl)
other_set (z ∷ xs) zero (suc j) x h = refl
other_set (z ∷ xs) (suc i) zero x h = refl
other_set (z ∷ xs) (suc i) (suc j) x h = other_set xs i j x (λ e. h (ap suc e))

-- the item at the place that was written to, and at another
pub item_with : {A : Type 0} (xs : List A) (i : ℕ) (x y : A) → item xs i ≡ Some y → item (with_item xs i x) i ≡ Some x
item_with xs zero x y h = absurd (cc h)
item_with xs (suc i) x y h = item_set xs i x y h

pub item_other : {A : Type 0} (xs : List A) (i j : ℕ) (x : A) → (j ≡ i → ⊥) → item (with_item xs i x) j ≡ item xs j
item_other xs zero j x h = refl
item_other xs (suc i) zero x h = refl
item_other xs (suc i) (suc j) x h = other_set xs i j x (λ e. h (ap suc e))

module _ (M : Machine) where
  -- some events lead from this world to one for which this holds
  abbrev pub Reaches : List (Node M.Body) → (List (Node M.Body) → Type 0) → Type 0
  Reaches w P = (es : List (Event M)) × P (run M es w)

  pub here : (w : List (Node M.Body)) (P : List (Node M.Body) → Type 0) → P w → Reaches w P
  here w P p = ([], p)

  -- from there on
  pub go_on : (w : List (Node M.Body)) (P Q : List (Node M.Body) → Type 0) → Reaches w P → ((u : List (Node M.Body)) → P u → Reaches u Q) → Reaches w Q
  go_on w P Q r f = let g = f (run M r.0 w) r.1 in (r.0 ++ g.0, subst Q (sym (run-append M r.0 g.0 w)) g.1)

  pub one_event : (w : List (Node M.Body)) (P : List (Node M.Body) → Type 0) (e : Event M) → P (happens M w e) → Reaches w P
  one_event w P e p = (e ∷ [], p)

  -- The node of this number became this one in a group of this size, and no other changed.
  pub record Becomes (size i : ℕ) (s : Node M.Body) (w u : List (Node M.Body)) : Type 0 where
    pub long : length u ≡ size
    pub now : item u i ≡ Some s
    pub others : (j : ℕ) → (j ≡ i → ⊥) → item u j ≡ item w j

  pub becomes_by : (size i : ℕ) (s t : Node M.Body) (w : List (Node M.Body)) → length w ≡ size → item w i ≡ Some t → Becomes size i s w (with_item w i s)
  becomes_by size i s t w long at =
      record { long = length-with_item w i s ∙ long; now = item_with w i s t at; others = λ j h. item_other w i j s h }

  pub again : (size i : ℕ) (s t : Node M.Body) (w u v : List (Node M.Body)) → Becomes size i s w u → Becomes size i t u v → Becomes size i t w v
  again size i s t w u v a b = record { long = b.long; now = b.now; others = λ j h. b.others j h ∙ a.others j h }

  -- what an event does to its node
  module _ (size i : ℕ) (w : List (Node M.Body)) (s : Node M.Body) (long : length w ≡ size) (at : item w i ≡ Some s) where
    pub owned : (o : Own M) → Becomes size i (own M size i o s).node w (world.world_by M w i o (item w i))
    owned o =
        let is : world.world_by M w i o (item w i) ≡ with_item w i (own M size i o s).node =
        ap (λ (t : Option (Node M.Body)). world.world_by M w i o t) at ∙ ap (λ (n : ℕ). with_item w i (own M n i o s).node) long in
        subst (λ (u : List (Node M.Body)). Becomes size i (own M size i o s).node w u) (sym is) (becomes_by size i (own M size i o s).node s w long at)

    pub restarts : Becomes size i (own M size i Restarts s).node w (happens M w (world.Restart i))
    restarts = owned Restarts

    pub expires : Becomes size i (turn M size i Expires s).node w (happens M w (world.Does (world.Timeout i)))
    expires = owned (Acts Expires)

    pub beats : Becomes size i (turn M size i Beats s).node w (happens M w (world.Does (world.Beat i)))
    beats = owned (Acts Beats)

  -- a message that was sent comes to its receiver
  pub comes : (size j k : ℕ) (w : List (Node M.Body)) (s t : Node M.Body) (m : Message M.Body) → length w ≡ size → item w j ≡ Some s → item s.sent k ≡ Some m → item w m.to ≡ Some t
      → Becomes size m.to (on_message M.blank size m.to t m) w (happens M w (world.Does (world.Deliver j k)))
  comes size j k w s t m long at sent to =
      let e : sent_of (item w j) k ≡ Some m = ap (λ (o : Option (Node M.Body)). sent_of o k) at ∙ sent in
      let is : happens M w (world.Does (world.Deliver j k)) ≡ world.world_by M w m.to (Acts (Hears m)) (item w m.to) =
      ap (λ (o : Option (Message M.Body)). world.world_by M w (to_of o) (Acts (world.hears M o)) (item w (to_of o))) e in
      subst (λ (u : List (Node M.Body)). Becomes size m.to (on_message M.blank size m.to t m) w u) (sym is) (owned size m.to w t long to (Acts (Hears m)))
