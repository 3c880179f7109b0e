-- What a node does by its plan is its turn.
use Rattle.std.proofs.Common.{◌≡◌, ℕ, zero, suc, false, List, [], ◌++◌, inl, None, Result, Ok, Err, refl, sym, ap, subst, ◌∙◌, arith}
use Rattle.raft_log.specs.declared.message.Message.{Message}
use Rattle.raft_log.specs.declared.node_state.NodeState.{NodeState}
use Rattle.raft_log.specs.declared.step.Step.{Step}
use Rattle.raft_log.specs.Node.{Node}
use Rattle.raft_log.specs.Seen.{node_of, seen}
use Rattle.raft_log.specs.Steps.{after, log_after}
use Rattle.node_steps.specs.declared.refusal.Refusal.{Refusal}
use Rattle.node_steps.specs.Plans.{Plan, Declines, Goes, IsStepOf}
use Rattle.raft_node.specs.declared.input.Input.{Input}
use Rattle.raft_node.specs.declared.input.Output.{Output}
use Rattle.raft_node.specs.declared.node_fault.NodeFault.{NodeFault}
use Rattle.raft_node.specs.declared.node_fault.NodeFault.TheVariants.{Down, Refused}
use Rattle.raft_node.specs.Inputs.{act_of, bodies_of, input_plan, is_apply}
use Rattle.raft_node.specs.Machine.{Machine}
use Rattle.raft_node.specs.Parts.{Keeper, MayHold, Parts, applied_bodies, size_of}
use Rattle.raft_node.specs.Stepping.{IsStepped, given, turned}
use Rattle.raft_node.specs.Steps.{Out, Quiet, Turn, quiet}
use Rattle.raft_node.specs.Steps as steps
use Rattle.raft_node.specs.Stood.{IsStood, Stands}
use Rattle.raft_node.proofs.Planned.{turn_goes, turn_declines}

module _ (M : Machine) {Setup Hosted Store : Type 0} (k : Keeper Store M.Body) (input : Input (Message M.Body) M.Body M.Line) (saves : is_apply input ≡ false)
    (old : Parts Setup Hosted Store M.Body) (up : old.down ≡ None) where
  -- what is quiet is no refusal
  quiet_so : (r : Refusal) (t : Turn M) (n : Node M.Body) → t ≡ quiet M n → t.out ≡ steps.Refused r → ⊥
  quiet_so r t n e h = let z : (quiet M n).out ≡ steps.Refused r = sym (ap (λ (u : Turn M). u.out) e) ∙ h in cc z

  -- what this node plans
  abbrev plan : Node M.Body → Plan M.Body
  plan = input_plan (bodies_of M) (M.next_claim (applied_bodies old.state)) (size_of old.state) old.id input

  module _ (step : Step M.Body) (of : IsStepOf plan old.state.standing old.state.log step) where
    comes : (sent : List (Message M.Body)) → turned M (act_of M input) old sent ≡ quiet M (node_of step.standing (log_after old.state.log step) (sent ++ step.messages.items))
    comes sent = turn_goes M (seen old.state sent) (size_of old.state) old.id input saves _ (of.goes sent)

    turn_of : Node M.Body → ℕ → List M.Effect → Turn M
    turn_of node place effects = record { node = node; out = given place effects }

    -- nothing comes out if no place was applied
    nothing : (place : ℕ) (effects : List M.Effect) → place ≡ 0 → given {M = M} place effects ≡ Quiet
    nothing zero effects e = refl
    nothing (suc place) effects e = absurd (omega arith)

    turns : (output : Output M.Body M.Effect) (new : Parts Setup Hosted Store M.Body) → Stands k step old output new → (sent : List (Message M.Body))
        → turned M (act_of M input) old sent ≡ record { node = seen new.state (sent ++ output.messages.items); out = given output.place output.effects.items }
    turns output new h sent =
        let node : seen new.state (sent ++ output.messages.items) ≡ seen (after old.state step) (sent ++ step.messages.items) =
        ap (λ (s : NodeState M.Body). seen s (sent ++ output.messages.items)) h.state ∙ ap (λ (ms : List (Message M.Body)). seen (after old.state step) (sent ++ ms)) h.sent
        in
        comes sent
        ∙ (ap (λ (n : Node M.Body). quiet M n) (sym node)
        ∙ ap (λ (o : Out M). let t : Turn M = record { node = seen new.state (sent ++ output.messages.items); out = o } in t) (sym (nothing output.place output.effects.items h.place)))

    pub acted : (result : Result (Output M.Body M.Effect) NodeFault) (new : Parts Setup Hosted Store M.Body) → IsStood k step old result new → IsStepped M k input old result new
    acted (Ok output) new h = (
      record { was_up = up; is_up = h.0.is_up; turns = turns output new h.0; none_leaves = λ e. h.0.effects; holds = h.0.holds },
      h.1,
    )
    acted (Err (Refused refusal)) new h = absurd h.0
    acted (Err (Down cause)) new h = (
      inl (record {
        was_up = up;
        is_down = h.0.is_down;
        same = h.0.state;
        blamed = h.0.blamed;
        may_hold = subst (λ (t : Turn M). MayHold k new.store old.state t.node) (sym (comes [])) h.0.may_hold;
        not_refused = λ r e. quiet_so r (turned M (act_of M input) old []) _ (comes []) e;
      }),
      h.1,
    )

  -- a plan that goes on is not refused
  pub wanting : ((sent : List (Message M.Body)) → (s : Node M.Body) × (plan (node_of old.state.standing old.state.log sent) ≡ Goes s))
      → (r : Refusal) → (turned M (act_of M input) old []).out ≡ steps.Refused r → ⊥
  wanting goes r e =
      let g = goes [] in
      quiet_so r (turned M (act_of M input) old []) g.0 (turn_goes M (seen old.state []) (size_of old.state) old.id input saves g.0 g.1) e

  pub declined : (refusal : Refusal) → ((sent : List (Message M.Body)) → plan (node_of old.state.standing old.state.log sent) ≡ Declines refusal)
      → (new : Parts Setup Hosted Store M.Body) → new ≡ old → IsStepped M k input old (Err (Refused refusal)) new
  declined refusal h new e =
      subst (λ (x : Parts Setup Hosted Store M.Body). IsStepped M k input old (Err (Refused refusal)) x) (sym e) (
        record { was_up = up; turns = λ sent. turn_declines M (seen old.state sent) (size_of old.state) old.id input saves refusal (h sent); same = refl },
        record { id = refl; setup = refl; size = refl; honest = refl },
      )
