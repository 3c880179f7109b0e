-- What leads by the views' steps leads by the group's events, from a world in which the nodes had sent something before.
use Rattle.std.proofs.Common.{◌≡◌, ℕ, zero, suc, ◌+◌, List, [], ◌∷◌, ◌++◌, length, set, Option, Some, refl, sym, ap, ◌∙◌, arith, length-set}
use Rattle.std.proofs.lemmas.List.{map-append}
use mathlib.Core.Option.{some, some-injective, some-ne-none}
use lib.ListN.{get_elem?}
use Rattle.raft_log.specs.Lists.{item}
use Rattle.raft_log.specs.Node.{Node}
use Rattle.raft_node.specs.Machine.{Machine}
use Rattle.raft_node.specs.Steps.{Out, Own, Acts, Stops, Act, own}
use Rattle.raft_node.specs.Sound.{sent_first}
use Rattle.agreement.specs.World.{sent_of, to_of}
use Rattle.world_run.specs.World as world
use Rattle.world_run.specs.World.{Event, run, outs, happens, out_of}
use Rattle.world_views.specs.declared.envelope.Envelope.{Envelope}
use Rattle.world_views.specs.declared.node_event.NodeEvent.TheVariants.{Does, Look, Restart, StopIn}
use Rattle.world_views.specs.Inputs.{NodeInput}
use Rattle.raft_node.specs.declared.input.Input.TheVariants.{Timeout, Beat, Deliver, Ask, Opened, Closed, Heard, Claim, Apply}
use Rattle.world_views.specs.Views.{sender, carries, brings}
use Rattle.world_views.specs.Own.{EventOf, act_of, own_of, own_state, own_out}
use Rattle.world_views.specs.Merged.{PlacedOf, MayBring, Leads, still, on}
use Rattle.world_views.specs.Openings.{sent_by, sent_in, input_in, event_in, events_in}
use Rattle.world_views.proofs.Places.{got, below, there, get_past}
use Rattle.world_views.proofs.Sent.{state_moves, out_moves}

module _ {B : Type 0} where
  -- each node goes on from what it had sent in w0
  unfoldable pub onto : List (Node B) → List (Node B) → List (Node B)
  onto [] ss = []
  onto (x ∷ xs) [] = []
  onto (x ∷ xs) (s ∷ ss) = sent_first x.sent s ∷ onto xs ss

  pub at_onto : (w0 w : List (Node B)) (i : ℕ) (x s : Node B) → get_elem? w0 i ≡ some x → get_elem? w i ≡ some s → get_elem? (onto w0 w) i ≡ some (sent_first x.sent s)
  unfolding onto
  at_onto [] w i x s h k = absurd (some-ne-none x (sym h))
  at_onto (y ∷ ys) [] i x s h k = absurd (some-ne-none s (sym k))
  at_onto (y ∷ ys) (t ∷ ts) zero x s h k = λ d. some (sent_first (some-injective y x h d).sent (some-injective t s k d))
  at_onto (y ∷ ys) (t ∷ ts) (suc i) x s h k = at_onto ys ts i x s h k

  set_onto : (w0 w : List (Node B)) (i : ℕ) (x s : Node B) → get_elem? w0 i ≡ some x → set (onto w0 w) i (sent_first x.sent s) ≡ onto w0 (set w i s)
  unfolding onto
  set_onto [] w i x s h = absurd (some-ne-none x (sym h))
  set_onto (y ∷ ys) [] i x s h = refl
  set_onto (y ∷ ys) (t ∷ ts) zero x s h = sym (ap (λ (z : Node B). sent_first z.sent s ∷ onto ys ts) (some-injective y x h))
  set_onto (y ∷ ys) (t ∷ ts) (suc i) x s h = ap (λ (l : List (Node B)). sent_first y.sent t ∷ l) (set_onto ys ts i x s h)

  pub length-onto : (w0 w : List (Node B)) → length w0 ≡ length w → length (onto w0 w) ≡ length w
  unfolding onto
  length-onto [] [] e = refl
  length-onto [] (t ∷ ts) e = absurd (omega arith)
  length-onto (y ∷ ys) [] e = absurd (omega arith)
  length-onto (y ∷ ys) (t ∷ ts) e = ap suc (length-onto ys ts (omega arith))

-- an item after others
pub item_past : {A : Type 0} (xs ys : List A) (k : ℕ) (x : A) → item ys k ≡ Some x → item (xs ++ ys) (length xs + k) ≡ Some x
item_past xs ys zero x h = absurd (cc h)
item_past xs ys (suc k) x h = let z : length xs + suc k ≡ suc (length xs + k) = omega arith in ap (λ (j : ℕ). item (xs ++ ys) j) z ∙ get_past xs ys k x h

module _ (M : Machine) where
  -- an event of one node changes that node
  lands : (w : List (Node M.Body)) (y : Event M) (i : ℕ) (o : Own M) (t : Node M.Body) → world.stepper M w y ≡ suc i → world.own_of M w y ≡ o → get_elem? w i ≡ some t
      → happens M w y ≡ set w i (own M (length w) (suc i) o t).node
  lands w y i o t h k at =
      (λ d. world.world_by M w (h d) (k d) (item w (h d)))
      ∙ ap (λ (p : Option (Node M.Body)). world.world_by M w (suc i) o p) (got w i t at)

  -- and this comes out
  comes_of : (w : List (Node M.Body)) (y : Event M) (i : ℕ) (o : Own M) (t : Node M.Body) → world.stepper M w y ≡ suc i → world.own_of M w y ≡ o → get_elem? w i ≡ some t
      → out_of M w y ≡ (own M (length w) (suc i) o t).out
  comes_of w y i o t h k at =
      (λ d. world.out_by M w (h d) (k d) (item w (h d)))
      ∙ ap (λ (p : Option (Node M.Body)). world.out_by M w (suc i) o p) (got w i t at)

  module _ (w0 v : List (Node M.Body)) (long : length w0 ≡ length v) where
    -- a delivered message is in the world at its number, counted on from what its sender had sent
    comes : (i : ℕ) (m : Envelope M.Body) → MayBring M v i (Some m) → sent_of (item (onto w0 v) m.message.from) (length (sent_in w0 m.message.from) + m.number) ≡ Some m.message
    comes i m may =
        let j : ℕ = sender m in let s = may.2.0 in let at = may.2.1 in let x = there w0 j (let lt = below v j s at in omega arith) in
        let from : m.message.from ≡ suc j = may.1 in
        ap (λ (f : ℕ). sent_of (item (onto w0 v) f) (length (sent_in w0 f) + m.number)) from
        ∙ (λ d. sent_of (got (onto w0 v) j (sent_first x.0.sent s) (at_onto w0 v j x.0 s x.1 at) d) (length (sent_by (got w0 j x.0 x.1 d)) + m.number))
        ∙ item_past x.0.sent s.sent m.number m.message may.2.2

    module _ (i : ℕ) where
      is_act : (x : NodeInput M.Body M.Line) → MayBring M v i (carries x)
          → (world.actor M (onto w0 v) (input_in M w0 (suc i) x) ≡ suc i) × (world.act_of M (onto w0 v) (input_in M w0 (suc i) x) ≡ act_of M x)
      is_act Timeout may = (refl, refl)
      is_act Beat may = (refl, refl)
      is_act (Deliver m) may = let c = comes i m may in (ap to_of c ∙ may.0, ap (world.hears M) c)
      is_act (Ask body) may = (refl, refl)
      is_act Opened may = (refl, refl)
      is_act Closed may = (refl, refl)
      is_act (Heard at line) may = (refl, refl)
      is_act Claim may = (refl, refl)
      is_act Apply may = (refl, refl)

      -- the group's event does the same to the same node
      is_own : (e : EventOf M) → MayBring M v i (brings e)
          → (world.stepper M (onto w0 v) (event_in M w0 (suc i) e) ≡ suc i) × (world.own_of M (onto w0 v) (event_in M w0 (suc i) e) ≡ own_of M e)
      is_own (Does x) may = let h = is_act x may in (h.0, ap (λ (a : Act M). let o : Own M = Acts a in o) h.1)
      is_own (Look from_place target) may = (refl, refl)
      is_own Restart may = (refl, refl)
      is_own (StopIn x after) may = let h = is_act x may in (h.0, ap (λ (a : Act M). let o : Own M = Stops a after in o) h.1)

    pub happens_so : (i : ℕ) (s : Node M.Body) → get_elem? v i ≡ some s → (e : EventOf M) → MayBring M v i (brings e)
        → happens M (onto w0 v) (event_in M w0 (suc i) e) ≡ onto w0 (set v i (own_state M (length v) (suc i) s e))
    unfolding own_state
    happens_so i s at e may =
        let x = there w0 i (let lt = below v i s at in omega arith) in let h = is_own i e may in
        lands (onto w0 v) (event_in M w0 (suc i) e) i (own_of M e) (sent_first x.0.sent s) h.0 h.1 (at_onto w0 v i x.0 s x.1 at)
        ∙ ap (set (onto w0 v) i) (ap (λ (n : ℕ). own_state M n (suc i) (sent_first x.0.sent s) e) (length-onto w0 v long) ∙ state_moves M x.0.sent (length v) (suc i) s e)
        ∙ set_onto w0 v i x.0 (own_state M (length v) (suc i) s e) x.1

    pub comes_so : (i : ℕ) (s : Node M.Body) → get_elem? v i ≡ some s → (e : EventOf M) → MayBring M v i (brings e)
        → out_of M (onto w0 v) (event_in M w0 (suc i) e) ≡ own_out M (length v) (suc i) s e
    unfolding own_out
    comes_so i s at e may =
        let x = there w0 i (let lt = below v i s at in omega arith) in let h = is_own i e may in
        comes_of (onto w0 v) (event_in M w0 (suc i) e) i (own_of M e) (sent_first x.0.sent s) h.0 h.1 (at_onto w0 v i x.0 s x.1 at)
        ∙ ap (λ (n : ℕ). own_out M n (suc i) (sent_first x.0.sent s) e) (length-onto w0 v long) ∙ out_moves M x.0.sent (length v) (suc i) s e

  pub leads_length : (w : List (Node M.Body)) (es : List (PlacedOf M)) (v : List (Node M.Body)) → Leads M w es v → length v ≡ length w
  leads_length w es v still = refl
  leads_length w fs u (on {es = es} {v = v} e l st) = ap length st.1.2 ∙ length-set v e.0 _ ∙ leads_length w es v l

  pub run-append : (xs ys : List (Event M)) (w : List (Node M.Body)) → run M (xs ++ ys) w ≡ run M ys (run M xs w)
  run-append [] ys w = refl
  run-append (x ∷ xs) ys w = run-append xs ys (happens M w x)

  pub outs-append : (xs ys : List (Event M)) (w : List (Node M.Body)) → outs M (xs ++ ys) w ≡ outs M xs w ++ outs M ys (run M xs w)
  outs-append [] ys w = refl
  outs-append (x ∷ xs) ys w = ap (λ (l : List (Out M)). out_of M w x ∷ l) (outs-append xs ys (happens M w x))

  pub events-append : (w0 : List (Node M.Body)) (xs ys : List (PlacedOf M)) → events_in M w0 (xs ++ ys) ≡ events_in M w0 xs ++ events_in M w0 ys
  events-append w0 xs ys = map-append (λ e. event_in M w0 (suc e.0) e.1.1) xs ys

  -- what leads from w to v leads by the group's events from w to v, each after what w0 had sent
  pub leads_run : (w0 w : List (Node M.Body)) (es : List (PlacedOf M)) (v : List (Node M.Body)) → length w0 ≡ length w → Leads M w es v → run M (events_in M w0 es) (onto w0 w) ≡ onto w0 v
  leads_run w0 w es v long still = refl
  leads_run w0 w fs u long (on {es = es} {v = v} e l st) =
      ap (λ (ys : List (Event M)). run M ys (onto w0 w)) (events-append w0 es (e ∷ []))
      ∙ run-append (events_in M w0 es) (events_in M w0 (e ∷ [])) (onto w0 w)
      ∙ ap (run M (events_in M w0 (e ∷ []))) (leads_run w0 w es v long l)
      ∙ happens_so w0 v (long ∙ sym (leads_length w es v l)) e.0 st.1.0 st.1.1 e.1.1 st.0
      ∙ ap (onto w0) (sym st.1.2)
