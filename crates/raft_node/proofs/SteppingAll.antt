-- A node's plans of several inputs give the result of their turns.
use Rattle.std.proofs.Common.{◌≡◌, ℕ, ◌↔◌, List, [], ◌∷◌, inl, Option, None, Some, Result, Ok, Err, map, take, refl, sym, ap, subst, ◌∙◌, ◌++◌, ◌+◌, length, length-append, length-take, arith, append-nil, zero, suc}
use Rattle.std.specs.Prelude.{IfSome}
use Rattle.std.specs.List.{AllByRecursion}
use Rattle.machine_laws.specs.Runs.{History}
use Rattle.raft_log.specs.declared.entry.Entry.{Entry}
use Rattle.raft_log.specs.declared.message.Message.{Message}
use Rattle.raft_log.specs.declared.node_state.NodeState.{NodeState}
use Rattle.raft_log.specs.declared.step.Step.{Step}
use Rattle.raft_log.specs.Node.{Node}
use Rattle.raft_log.specs.Seen.{seen}
use Rattle.raft_log.specs.Steps.{after}
use Rattle.stable_store.specs.declared.saved.Saved.{Saved}
use Rattle.stable_store.specs.Stores.{Serves}
use Rattle.node_steps.specs.declared.refusal.Refusal.{Refusal}
use Rattle.node_steps.specs.Plans.{Plan, Goes, Declines}
use Rattle.raft_node.specs.declared.input.Input.{Input}
use Rattle.raft_node.specs.declared.input.Output.{Output}
use Rattle.raft_node.specs.declared.node_fault.Cause.{Cause}
use Rattle.raft_node.specs.declared.node_fault.Cause.TheVariants.{Memory}
use Rattle.raft_node.specs.declared.node_fault.NodeFault.{NodeFault}
use Rattle.raft_node.specs.declared.node_fault.NodeFault.TheVariants.{Down, Refused}
use Rattle.raft_node.specs.Faults.{cause_after}
use Rattle.raft_node.specs.Inputs.{act_of, bodies_of, input_plan}
use Rattle.raft_node.specs.Kept.{IsStill}
use Rattle.raft_node.specs.Machine.{Machine, history}
use Rattle.raft_node.specs.Parts.{IsWhole, Keeper, MayHold, Parts, applied_bodies, size_of}
use Rattle.raft_node.specs.Sound.{IsSound}
use Rattle.raft_node.specs.Stepping.{given}
use Rattle.raft_node.specs.Steps.{Out, Quiet, Turn, applied_history, turn}
use Rattle.raft_node.specs.SteppingTogether.{AreDone, AreDowned, ComeTo, OneIsAStep, out_of}
use Rattle.raft_node.specs.Stood.{IsStood}
use Rattle.raft_node.specs.Together.{ArePlanned, IsAppend, OnlyAppends, answer, answers, outs, planned, planned_all, turned_all}
use Rattle.raft_node.proofs.Adding.{StaysOn, saves, stays_on}
use Rattle.raft_node.proofs.Planned.{turn_by, turn_planned}

pub if_some : {X : Type 0} (o : Option X) (x : X) (P : X → Type 0) → o ≡ Some x → P x → IfSome o P
if_some {X} o x P e h = subst (λ (p : Option X). IfSome p P) (sym e) h

module _ (M : Machine) (size i : ℕ) (next : Option ℕ) where
  abbrev plan : Input (Message M.Body) M.Body M.Line → Node M.Body → Plan M.Body
  plan = input_plan (bodies_of M) next size i

  node_by : (s : Node M.Body) (p : Plan M.Body) → (turn_by M s p).node ≡ planned s p
  node_by s (Goes t) = refl
  node_by s (Declines refusal) = refl

  out_by : (s : Node M.Body) (p : Plan M.Body) → (turn_by M s p).out ≡ out_of M (answer p)
  out_by s (Goes t) = refl
  out_by s (Declines refusal) = refl

  turn_is : (s : Node M.Body) (input : Input (Message M.Body) M.Body M.Line) → OnlyAppends input → next ≡ M.next_claim (applied_history M s)
      → turn M size i (act_of M input) s ≡ turn_by M s (plan input s)
  turn_is s input h e =
      turn_planned M s size i input (saves input h)
      ∙ ap (λ (o : Option ℕ). turn_by M s (input_plan (bodies_of M) o size i input s)) (sym e)

  -- The result of turns is the result of plans.
  pub record ArePlans (inputs : List (Input (Message M.Body) M.Body M.Line)) (s : Node M.Body) : Type 0 where
    pub node : turned_all M size i (map (act_of M) inputs) s ≡ planned_all plan inputs s
    pub out : outs M size i (map (act_of M) inputs) s ≡ map (out_of M) (answers plan inputs s)

  pub are_plans : (inputs : List (Input (Message M.Body) M.Body M.Line)) → AllByRecursion OnlyAppends inputs → (s : Node M.Body) → IsSound size s
      → next ≡ M.next_claim (applied_history M s) → ArePlans inputs s
  are_plans [] h s sound e = record { node = refl; out = refl }
  are_plans (input ∷ inputs) h s sound e =
      let t : Node M.Body = planned s (plan input s) in
      let turns : turn M size i (act_of M input) s ≡ turn_by M s (plan input s) = turn_is s input h.0 e in
      let to : (turn M size i (act_of M input) s).node ≡ t = ap (λ (u : Turn M). u.node) turns ∙ node_by s (plan input s) in
      let gives : (turn M size i (act_of M input) s).out ≡ out_of M (answer (plan input s)) = ap (λ (u : Turn M). u.out) turns ∙ out_by s (plan input s) in
      let k : StaysOn size s t = stays_on (bodies_of M) next size i input h.0 s sound in
      let same : applied_history M t ≡ applied_history M s =
      ap (λ (n : ℕ). history (take n t.log)) k.applied ∙ ap (λ (l : List (Entry M.Body)). history l) k.front
      in
      let rest : ArePlans inputs t = are_plans inputs h.1 t k.sound (e ∙ ap M.next_claim (sym same)) in
      record {
        node = ap (λ (x : Node M.Body). turned_all M size i (map (act_of M) inputs) x) to ∙ rest.node;
        out =
            ap (λ (x : Node M.Body). (turn M size i (act_of M input) s).out ∷ outs M size i (map (act_of M) inputs) x) to
            ∙ (ap (λ (o : Out M). o ∷ outs M size i (map (act_of M) inputs) t) gives
            ∙ ap (λ (os : List (Out M)). out_of M (answer (plan input s)) ∷ os) rest.out);
      }

module _ (M : Machine) {Setup Hosted Store : Type 0} (inputs : List (Input (Message M.Body) M.Body M.Line)) (n : Parts Setup Hosted Store M.Body) where
  -- a node plans the result of its turns
  pub come_to : AllByRecursion OnlyAppends inputs → IsSound (size_of n.state) (seen n.state []) → (next : Option ℕ) → next ≡ M.next_claim (applied_bodies n.state)
      → (step : Step M.Body) (given : List (Result (Unit {0}) Refusal))
      → ArePlanned (input_plan (bodies_of M) next (size_of n.state) n.id) n.state inputs step given → ComeTo M inputs n step given
  come_to h sound next e step given p =
      let k : (sent : List (Message M.Body)) → ArePlans M (size_of n.state) n.id next inputs (seen n.state sent) =
      λ sent. are_plans M (size_of n.state) n.id next inputs h (seen n.state sent) sound e
      in
      record {
        node = λ sent. (k sent).node ∙ p.node sent;
        outs_are = λ sent. (k sent).out ∙ ap (λ (g : List (Result (Unit {0}) Refusal)). map (out_of M) g) (p.answers_are sent);
      }

  module _ (k : Keeper Store M.Body) (up : n.down ≡ None) (step : Step M.Body) (given : List (Result (Unit {0}) Refusal)) (c : ComeTo M inputs n step given) where
    abbrev stood : Output M.Body M.Effect → Result (Output M.Body M.Effect) NodeFault
    stood output = Ok output

    abbrev fell : NodeFault → Result (Output M.Body M.Effect) NodeFault
    fell fault = Err fault

    pub all_done : (output : Output M.Body M.Effect) (new : Parts Setup Hosted Store M.Body) → IsStood k step n (stood output) new → AreDone M k inputs n given new
    all_done output new h =
        record {
          was_up = up;
          is_up = h.0.is_up;
          node = λ sent. c.node sent ∙ ap (λ (s : NodeState M.Body). seen s sent) (sym h.0.state);
          outs_are = c.outs_are;
          holds = h.0.holds;
        }

    falls_by : (fault : NodeFault) (new : Parts Setup Hosted Store M.Body) → IsStood k step n (fell fault) new → AreDowned M k inputs n (cause_after fault) new
    falls_by (Refused refusal) new h = absurd h.0
    falls_by (Down cause) new h =
        record {
          was_up = up;
          is_down = h.0.is_down;
          same = h.0.state;
          blamed = h.0.blamed;
          may_hold = subst (λ (s : Node M.Body). MayHold k new.store n.state s) (sym (c.node [])) h.0.may_hold;
        }

    pub all_failed : (fault : NodeFault) (cause : Cause) (new : Parts Setup Hosted Store M.Body) → IsStood k step n (fell fault) new → cause ≡ cause_after fault
        → AreDowned M k inputs n cause new
    all_failed fault cause new h e = subst (λ (x : Cause). AreDowned M k inputs n x new) (sym e) (falls_by fault new h)

module _ (M : Machine) {Setup Hosted Store : Type 0} (inputs : List (Input (Message M.Body) M.Body M.Line)) (stands : Hosted → Setup → History M.Body → Type 0) (k : Keeper Store M.Body)
    (sure : (s : Store) (v : Saved M.Body) → Serves (k.condition s) → k.may_stand s v ↔ (v ≡ k.saved s)) where
  -- memory ran out as they were planned
  pub no_memory : (n old : Parts Setup Hosted Store M.Body) → n ≡ old → old.down ≡ None → IsWhole stands k n → AreDowned M k inputs old Memory (record n { down = Some Memory })
  no_memory n old same up w = subst (λ (x : Parts Setup Hosted Store M.Body). AreDowned M k inputs x Memory (record n { down = Some Memory })) same falls
    where
      up_here : n.down ≡ None
      up_here = subst (λ (x : Parts Setup Hosted Store M.Body). x.down ≡ None) (sym same) up

      falls : AreDowned M k inputs n Memory (record n { down = Some Memory })
      falls =
          record {
            was_up = up_here;
            is_down = refl;
            same = refl;
            blamed = λ honest. refl;
            may_hold = λ honest v m. let r = w.holds up_here honest in inl ((sure n.store v r.0).0 m ∙ r.1);
          }

module _ {B : Type 0} (state : NodeState B) (step : Step B) (a : IsAppend state step) where
  -- if the log stays, nothing is to be saved
  pub is_still : (now : NodeState B) → now ≡ after state step → now.log ≡ state.log → IsStill state step.standing step.keep (length step.entries.items)
  is_still now e same =
      let logs : take step.keep state.log ++ step.entries.items ≡ state.log = sym (ap (λ (s : NodeState B). s.log) e) ∙ same in
      let long : length (take step.keep state.log) + length step.entries.items ≡ length state.log =
      sym (length-append (take step.keep state.log) step.entries.items) ∙ ap (λ (l : List (Entry B)). length l) logs
      in
      (a.term, a.vote, a.keeps_all, omega (arith, long, length-take step.keep state.log, a.keeps_all))

module _ (M : Machine) where
  turn_eq : (u : Turn M) (n : Node M.Body) (o : Out M) → u.node ≡ n → u.out ≡ o → u ≡ record { node = n; out = o }
  turn_eq u n o a b =
      ap (λ (x : Node M.Body). let t : Turn M = record { node = x; out = u.out } in t) a
      ∙ ap (λ (y : Out M). let t : Turn M = record { node = n; out = y } in t) b

  quiet_given : (place : ℕ) (effects : List M.Effect) → place ≡ 0 → given {M = M} place effects ≡ Quiet
  quiet_given zero effects e = refl
  quiet_given (suc place) effects e = absurd (omega arith)

  first_of : (o p : Out M) → o ∷ [] ≡ p ∷ [] → o ≡ p
  first_of o p e = cc e

module _ (M : Machine) (Setup Hosted : Type 0) {Store : Type 0} (k : Keeper Store M.Body) where
  -- one input alone
  pub one_is_a_step : OneIsAStep M Setup Hosted k
  one_is_a_step input old new = (
    λ output m p f h.
        record {
          was_up = h.was_up;
          is_up = h.is_up;
          turns = λ sent.
              let node : seen new.state sent ≡ seen new.state (sent ++ output.messages.items) =
              ap (λ (l : List (Message M.Body)). seen new.state l) (sym (ap (λ (l : List (Message M.Body)). sent ++ l) m ∙ append-nil sent))
              in
              turn_eq M _ _ _ (h.node sent ∙ node) (first_of M _ _ (h.outs_are sent) ∙ sym (quiet_given M output.place output.effects.items p));
          none_leaves = λ e. f;
          holds = h.holds;
        },
    λ cause goes h. record { was_up = h.was_up; is_down = h.is_down; same = h.same; blamed = h.blamed; may_hold = h.may_hold; not_refused = goes },
  )
