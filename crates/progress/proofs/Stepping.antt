-- The world after an event at one node, and after a list that is given by the world.
use Rattle.std.proofs.Common.{◌≡◌, ℕ, zero, suc, Bool, List, [], ◌∷◌, ◌++◌, length, Option, None, Some, refl, sym, ap, subst, ◌∙◌}
use Rattle.raft_log.specs.declared.message.Message.{Message}
use Rattle.raft_log.specs.Lists.{item}
use Rattle.raft_log.specs.Node.{Node}
use Rattle.node_steps.specs.Messages.{on_message}
use Rattle.raft_node.specs.Machine.{Machine}
use Rattle.raft_node.specs.Steps.{Act, own, turn}
use Rattle.raft_node.proofs.Items.{length-with_item}
use Rattle.agreement.specs.World.{sent_of, to_of}
use Rattle.agreement.specs.Laws.{IsIn}
use Rattle.world_run.specs.World.{World, Event, Does, Deliver, hears, stepper, own_of, world_by, happens, run}
use Rattle.progress.specs.Plans.{Plan, and_then, times, for_each}
use Rattle.progress.specs.Laws.{AreWithin, IsHeardWithin}
use Rattle.progress.proofs.Places.{with_here, with_else}

module _ (M : Machine) where
  -- one node changed
  pub record Stepped (w v : World M) (i : ℕ) (s : Node M.Body) : Type 0 where
    pub here : item v i ≡ Some s
    pub else : (k : ℕ) → (k ≡ i → ⊥) → item v k ≡ item w k
    pub long : length v ≡ length w

  pub event_stepped : (w : World M) (e : Event M) (i : ℕ) (s : Node M.Body) → stepper M w e ≡ i → item w i ≡ Some s
      → Stepped w (happens M w e) i (own M (length w) i (own_of M w e) s).node
  event_stepped w e i s p at =
      subst (λ z. Stepped w (world_by M w z (own_of M w e) (item w z)) i (own M (length w) i (own_of M w e) s).node) (sym p)
      (subst (λ z. Stepped w (world_by M w i (own_of M w e) z) i (own M (length w) i (own_of M w e) s).node) (sym at)
      (record { here = with_here w i _ s at; else = λ k ne. with_else w i k _ ne; long = length-with_item w i _ }))

  pub event_else : (w : World M) (e : Event M) (k : ℕ) → (k ≡ stepper M w e → ⊥) → item (happens M w e) k ≡ item w k
  event_else w e k ne = by_item (item w (stepper M w e)) refl
    where
      by_item : (o : Option (Node M.Body)) → item w (stepper M w e) ≡ o → item (world_by M w (stepper M w e) (own_of M w e) o) k ≡ item w k
      by_item None p = refl
      by_item (Some s) p = with_else w (stepper M w e) k _ ne

  -- a message is delivered
  pub deliver_stepped : (w : World M) (j k i : ℕ) (s t : Node M.Body) (m : Message M.Body) → item w j ≡ Some s → item s.sent k ≡ Some m → m.to ≡ i → item w i ≡ Some t
      → (stepper M w (Does (Deliver j k)) ≡ i) × Stepped w (happens M w (Does (Deliver j k))) i (on_message M.blank (length w) i t m)
  deliver_stepped w j k i s t m at sent to here =
      let found : sent_of (item w j) k ≡ Some m = ap (λ z. sent_of z k) at ∙ sent in
      let step : stepper M w (Does (Deliver j k)) ≡ i = ap to_of found ∙ to in (
        step,
        subst (λ (z : Act M). Stepped w (happens M w (Does (Deliver j k))) i (turn M (length w) i z t).node) (ap (hears M) found)
            (event_stepped w (Does (Deliver j k)) i t step here),
      )

  -- a list from this world leads to one for which this holds, and is of nodes of a set
  pub record Leads (set : List Bool) (w : World M) (es : List (Event M)) (Q : World M → Type 0) : Type 0 where
    pub ends : Q (run M es w)
    pub within : AreWithin M set w es

  pub run_append : (es fs : List (Event M)) (w : World M) → run M (es ++ fs) w ≡ run M fs (run M es w)
  run_append [] fs w = refl
  run_append (e ∷ es) fs w = run_append es fs (happens M w e)

  within_append : (set : List Bool) (es fs : List (Event M)) (w : World M) → AreWithin M set w es → AreWithin M set (run M es w) fs → AreWithin M set w (es ++ fs)
  within_append set [] fs w a b = b
  within_append set (e ∷ es) fs w a b = (a.0, a.1, within_append set es fs (happens M w e) a.2 b)

  module _ (set : List Bool) where
    pub leads_nothing : (w : World M) (Q : World M → Type 0) → Q w → Leads set w [] Q
    leads_nothing w Q q = record { ends = q; within = tt }

    pub leads_event : (w : World M) (e : Event M) (Q : World M → Type 0) → IsIn set (stepper M w e) → IsHeardWithin M set e → Q (happens M w e) → Leads set w (e ∷ []) Q
    leads_event w e Q a b q = record { ends = q; within = (a, b, tt) }

    pub leads_first : (w : World M) (e : Event M) (es : List (Event M)) (Q : World M → Type 0) → IsIn set (stepper M w e) → IsHeardWithin M set e → Leads set (happens M w e) es Q → Leads set w (e ∷ es) Q
    leads_first w e es Q a b q = record { ends = q.ends; within = (a, b, q.within) }

    pub leads_append : (w : World M) (es fs : List (Event M)) (Q R : World M → Type 0) → Leads set w es Q → (Q (run M es w) → Leads set (run M es w) fs R) → Leads set w (es ++ fs) R
    leads_append w es fs Q R a b =
        let c : Leads set (run M es w) fs R = b a.ends in
        record { ends = subst R (sym (run_append es fs w)) c.ends; within = within_append set es fs w a.within c.within }

    pub leads_then : (w : World M) (p q : Plan M) (Q R : World M → Type 0) → Leads set w (p w) Q → ((v : World M) → Q v → Leads set v (q v) R) → Leads set w (and_then M p q w) R
    leads_then w p q Q R a b = leads_append w (p w) (q (run M (p w) w)) Q R a (λ h. b _ h)

    pub leads_more : (w : World M) (es : List (Event M)) (Q R : World M → Type 0) → Leads set w es Q → ((v : World M) → Q v → R v) → Leads set w es R
    leads_more w es Q R a f = record { ends = f _ a.ends; within = a.within }

    -- each node of a list in turn
    pub leads_each : (f : ℕ → Plan M) (Good : List ℕ → Type 0) (I : List ℕ → World M → Type 0)
        → ((j : ℕ) (js : List ℕ) (w : World M) → Good (j ∷ js) → I (j ∷ js) w → Leads set w (f j w) (I js))
        → ((j : ℕ) (js : List ℕ) → Good (j ∷ js) → Good js)
        → (js : List ℕ) (w : World M) → Good js → I js w → Leads set w (for_each M f js w) (I [])
    leads_each f Good I step rest [] w good h = leads_nothing w (I []) h
    leads_each f Good I step rest (j ∷ js) w good h =
        leads_then w (f j) (for_each M f js) (I js) (I []) (step j js w good h) (λ v q. leads_each f Good I step rest js v (rest j js good) q)

    -- again and again, by how often it is still needed
    pub leads_times : (p : Plan M) (I : ℕ → World M → Type 0) → ((k : ℕ) (w : World M) → I (suc k) w → Leads set w (p w) (I k))
        → (k : ℕ) (w : World M) → I k w → Leads set w (times M k p w) (I 0)
    leads_times p I step zero w h = leads_nothing w (I 0) h
    leads_times p I step (suc k) w h = leads_then w p (times M k p) (I k) (I 0) (step k w h) (λ v q. leads_times p I step k v q)

  -- what happens in a set leaves the nodes outside of it unchanged
  pub others_stay : (set : List Bool) (es : List (Event M)) (w : World M) → AreWithin M set w es → (i : ℕ) → (IsIn set i → ⊥) → item (run M es w) i ≡ item w i
  others_stay set [] w h i out = refl
  others_stay set (e ∷ es) w h i out =
      others_stay set es (happens M w e) h.2 i out ∙ event_else w e i (λ p. out (subst (λ z. IsIn set z) (sym p) h.0))
