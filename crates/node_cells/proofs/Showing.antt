-- A step of a cell's node, at the cell's view.
use Rattle.std.proofs.Common.{◌≡◌, ℕ, suc, ◌+◌, ◌≤◌, inl, inr, ⊎_elim, true, false, List, [], ◌∷◌, ◌++◌, length, Option, Some, refl, sym, ap, ◌∙◌, subst, arith, append-nil, append_assoc, length-append}
use Rattle.std.specs.Prelude.{slice_get}
use Rattle.raft_log.specs.declared.message.Message.{Message}
use Rattle.raft_log.specs.declared.node_state.NodeState.{NodeState}
use Rattle.raft_log.specs.Node.{Node}
use Rattle.raft_log.specs.Seen.{seen}
use Rattle.stable_store.specs.declared.saved.Saved.{Saved}
use Rattle.stable_store.specs.Stores.{IsHonest}
use Rattle.node_steps.specs.declared.refusal.Refusal.{Refusal}
use Rattle.raft_node.specs.declared.input.Output.{Output}
use Rattle.raft_node.specs.declared.node_fault.Cause.{Cause}
use Rattle.raft_node.specs.Machine.{Machine}
use Rattle.raft_node.specs.Parts.{Keeper, Parts, saved_by, size_of}
use Rattle.raft_node.specs.Stepping.{IsDeclined, IsDone, IsDowned, IsSameNode, given, turned}
use Rattle.raft_node.specs.Steps.{Act, Acts, Looks, Out, Turn, own, refused, turn}
use Rattle.raft_node.specs.Steps as steps
use Rattle.raft_node.proofs.Unread.{sent_is_not_read}
use Rattle.world_views.specs.declared.node_event.NodeEvent.TheVariants.{Does, Look}
use Rattle.world_views.specs.Inputs.{NodeInput}
use Rattle.world_views.specs.Own.{EventOf, act_of, own_out, own_state}
use Rattle.node_cells.specs.declared.phase.Phase.{Phase}
use Rattle.node_cells.specs.declared.phase.Phase.TheVariants.{Up, DownInTurn}
use Rattle.node_cells.specs.Cells.{IsCell, IsIn, IsLater, Shows, after_input, view_in}
use Rattle.node_cells.specs.Turns.{CellOf}
use Rattle.node_cells.specs.Sending.{AreWithin, KnowsOneOf, StandFrom}
use Rattle.node_cells.proofs.Sending.{Acted, turn_acted}

found_last : {A : Type 0} (xs : List A) (m : A) (ms : List A) → slice_get (xs ++ m ∷ ms) (length xs) ≡ Some m
found_last [] m ms = refl
found_last (x ∷ xs) m ms = found_last xs m ms

one_more : (k : ℕ) → k + 1 ≡ suc k
one_more k = omega arith

-- what a step sends comes after what was sent before
pub stand_behind : {B : Type 0} (xs ms : List (Message B)) → StandFrom (xs ++ ms) (length xs) ms
stand_behind xs [] = tt
stand_behind {B} xs (m ∷ ms) = (
  found_last xs m ms,
  subst (λ (z : List (Message B) × ℕ). StandFrom z.0 z.1 ms) (λ d. (append_assoc xs (m ∷ []) ms d, (length-append xs (m ∷ []) ∙ one_more (length xs)) d)) (stand_behind (xs ++ m ∷ []) ms),
)

module _ (M : Machine) where
  -- events by acts
  pub does_state : (n i : ℕ) (s : Node M.Body) (x : NodeInput M.Body M.Line) → own_state M n i s (Does x) ≡ (turn M n i (act_of M x) s).node
  unfolding own_state
  does_state n i s x = refl

  pub does_out : (n i : ℕ) (s : Node M.Body) (x : NodeInput M.Body M.Line) → own_out M n i s (Does x) ≡ (turn M n i (act_of M x) s).out
  unfolding own_out
  does_out n i s x = refl

  look_state : (n i : ℕ) (s : Node M.Body) (from : ℕ) (target : M.Target) → own_state M n i s (Look from target) ≡ (turn M n i (Looks from target) s).node
  unfolding own_state
  look_state n i s from target = refl

  look_out : (n i : ℕ) (s : Node M.Body) (from : ℕ) (target : M.Target) → own_out M n i s (Look from target) ≡ (turn M n i (Looks from target) s).out
  unfolding own_out
  look_out n i s from target = refl

  -- what is saved does not depend on what was sent before
  saved_moves : (n i : ℕ) (a : Act M) (state : NodeState M.Body) (sent : List (Message M.Body))
      → saved_by (turn M n i a (seen state sent)).node ≡ saved_by (turn M n i a (seen state [])).node
  saved_moves n i a state sent =
      ap (λ (l : List (Message M.Body)). saved_by (turn M n i a (seen state l)).node) (sym (append-nil sent))
      ∙ ap (λ (t : Turn M). saved_by t.node) (sent_is_not_read M n i (Acts a) (seen state []) sent)

abbrev pub Inner : Machine → Type 0 → Type 0 → Type 0 → Type 0
Inner M Setup Hosted Store = Parts Setup Hosted Store M.Body

module _ (M : Machine) {Setup Hosted Store U : Type 0} (k : Keeper Store M.Body) where
  module _ (c : CellOf M Setup Hosted Store U) (h : IsCell M k c) where
    pub size_is : (view_in c).size ≡ size_of c.node.state
    size_is = h.book.opened.0.many ∙ sym h.size

    pub id_is : suc (view_in c).node ≡ c.node.id
    id_is = ap suc h.book.opened.0.node ∙ sym h.id

    -- an act at the view's node
    turn_here : (s : Node M.Body) → IsIn c.node.state s → (a : Act M) → turn M (view_in c).size (suc (view_in c).node) a s ≡ turned M a c.node s.sent
    turn_here s here a = λ d. turn M (size_is d) (id_is d) a (sym here d)

    pub is_up : c.phase ≡ Up → (view_in c).honest ≡ true → IsIn c.node.state (view_in c).state
    is_up up honest = (subst (λ (p : Phase M.Body M.Line M.Target). Shows M k (view_in c).size (suc (view_in c).node) (view_in c).state p c.refused c.node) up (h.shows honest)).0

    -- the result of an act of the node in memory
    pub acted_here : (a : Act M) → Acted c.node.id (size_of c.node.state) (let near = h.book.opened.0.near in omega (arith, near, h.size)) (seen c.node.state []) (turned M a c.node []).node
    acted_here a =
        turn_acted M c.node.id (size_of c.node.state) (let near = h.book.opened.0.near in omega (arith, near, h.size)) (seen c.node.state [])
        (subst (λ (n : ℕ). KnowsOneOf n (seen c.node.state [])) (sym h.size) h.leader) a

    -- what was saved after an input, by the view and by the node in memory
    pub saved_after : (s : Node M.Body) → IsIn c.node.state s → (x : NodeInput M.Body M.Line)
        → saved_by (after_input M (view_in c).size (suc (view_in c).node) s x) ≡ saved_by (turned M (act_of M x) c.node []).node
    saved_after s here x =
        ap saved_by (does_state M (view_in c).size (suc (view_in c).node) s x)
        ∙ ap (λ (t : Turn M). saved_by t.node) (turn_here s here (act_of M x))
        ∙ saved_moves M (size_of c.node.state) c.node.id (act_of M x) c.node.state s.sent

    module _ (up : c.phase ≡ Up) where
      -- A step that was done, by the view: what comes out, the state that it leaves, and what it sends.
      pub record Stepped (x : NodeInput M.Body M.Line) (output : Output M.Body M.Effect) (q : Inner M Setup Hosted Store) : Type 0 where
        pub out : (view_in c).honest ≡ true → given output.place output.effects.items ≡ own_out M (view_in c).size (suc (view_in c).node) (view_in c).state (Does x)
        pub state : (view_in c).honest ≡ true → own_state M (view_in c).size (suc (view_in c).node) (view_in c).state (Does x) ≡ seen q.state ((view_in c).state.sent ++ output.messages.items)
        pub within : AreWithin (suc c.pass.node) c.ether.size output.messages.items
        pub few : length output.messages.items ≤ 7
        pub leader : KnowsOneOf c.ether.size (seen q.state [])

      pub stepped : (x : NodeInput M.Body M.Line) (output : Output M.Body M.Effect) (q : Inner M Setup Hosted Store) → IsDone M k (act_of M x) c.node output q → Stepped x output q
      stepped x output q d =
          let s : Node M.Body = (view_in c).state in
          let n : ℕ = (view_in c).size in
          let i : ℕ = suc (view_in c).node in
          let a = acted_here (act_of M x) in
          let sends : a.more ≡ output.messages.items = sym a.is ∙ ap (λ (t : Turn M). t.node.sent) (d.turns []) in
          record {
            out = λ honest. sym (does_out M n i s x ∙ ap (λ (t : Turn M). t.out) (turn_here s (is_up up honest) (act_of M x) ∙ d.turns s.sent));
            state = λ honest. does_state M n i s x ∙ ap (λ (t : Turn M). t.node) (turn_here s (is_up up honest) (act_of M x) ∙ d.turns s.sent);
            within = subst (λ (z : (ℕ × ℕ) × List (Message M.Body)). AreWithin z.0.0 z.0.1 z.1) (λ j. ((h.id j, h.size j), sends j)) a.within;
            few = let f = a.few in let small = h.book.small in let long : length a.more ≡ length output.messages.items = ap length sends in omega (arith, f, small, long, h.size);
            leader = subst (λ (z : ℕ × Option ℕ). (j : ℕ) → z.1 ≡ Some j → (1 ≤ j) × (j ≤ z.0)) (λ j. (h.size j, ap (λ (t : Turn M). t.node.leader) (d.turns []) j)) a.leader;
          }

      -- An event that changes nothing.
      pub record Still (e : EventOf M) (o : Out M) : Type 0 where
        pub out : (view_in c).honest ≡ true → o ≡ own_out M (view_in c).size (suc (view_in c).node) (view_in c).state e
        pub state : (view_in c).honest ≡ true → own_state M (view_in c).size (suc (view_in c).node) (view_in c).state e ≡ (view_in c).state

      pub declined : (x : NodeInput M.Body M.Line) (refusal : Refusal) (q : Inner M Setup Hosted Store) → IsDeclined M (act_of M x) c.node refusal q → Still (Does x) (steps.Refused refusal)
      declined x refusal q d =
          let s : Node M.Body = (view_in c).state in
          let n : ℕ = (view_in c).size in
          let i : ℕ = suc (view_in c).node in
          record {
            out = λ honest. sym (does_out M n i s x ∙ ap (λ (t : Turn M). t.out) (turn_here s (is_up up honest) (act_of M x) ∙ d.turns s.sent));
            state = λ honest. does_state M n i s x ∙ ap (λ (t : Turn M). t.node) (turn_here s (is_up up honest) (act_of M x) ∙ d.turns s.sent) ∙ is_up up honest;
          }

      pub looked_still : (from : ℕ) (target : M.Target) (o : Out M)
          → ((sent : List (Message M.Body)) → turned M (Looks from target) c.node sent ≡ record { node = seen c.node.state sent; out = o }) → Still (Look from target) o
      looked_still from target o d =
          let s : Node M.Body = (view_in c).state in
          let n : ℕ = (view_in c).size in
          let i : ℕ = suc (view_in c).node in
          record {
            out = λ honest. sym (look_out M n i s from target ∙ ap (λ (t : Turn M). t.out) (turn_here s (is_up up honest) (Looks from target) ∙ d s.sent));
            state = λ honest. look_state M n i s from target ∙ ap (λ (t : Turn M). t.node) (turn_here s (is_up up honest) (Looks from target) ∙ d s.sent) ∙ is_up up honest;
          }

      -- what the store may hold once the node went down in a turn
      same_later : (v w : Saved M.Body) → v ≡ w → IsLater 0 w v
      same_later v w e =
          let boot : v.boot ≡ w.boot = ap (λ (z : Saved M.Body). z.boot) e in
          record {
            term = ap (λ (z : Saved M.Body). z.term) e;
            vote = ap (λ (z : Saved M.Body). z.vote) e;
            log = ap (λ (z : Saved M.Body). z.log) e;
            low = omega arith;
            high = omega arith;
          }

      pub downed : (x : NodeInput M.Body M.Line) (copy : Option (NodeInput M.Body M.Line)) (cause : Cause) (q : Inner M Setup Hosted Store) → IsDowned M k (act_of M x) c.node cause q → IsSameNode k c.node q → (view_in c).honest ≡ true
          → Shows M k (view_in c).size (suc (view_in c).node) (view_in c).state (DownInTurn x copy false) 0 q
      downed x copy cause q d same honest =
          let s : Node M.Body = (view_in c).state in
          let here = is_up up honest in
          let is_honest : IsHonest (k.condition q.store) = same.honest ∙ sym h.honest ∙ honest in (
            ap (λ (state : NodeState M.Body). seen state s.sent) d.same ∙ here,
            λ v stands. ⊎_elim
                (λ (e : v ≡ saved_by (seen c.node.state [])). inl (same_later v (saved_by s) (e ∙ ap saved_by here)))
                (λ (e : v ≡ saved_by (turned M (act_of M x) c.node []).node). inr (same_later v _ (e ∙ sym (saved_after s here x))))
                (d.may_hold is_honest v stands),
          )
