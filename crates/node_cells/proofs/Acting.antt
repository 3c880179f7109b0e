-- A step of a node at its cell, by its answer.
use Rattle.std.proofs.Common.{◌≡◌, ℕ, zero, suc, List, [], arith, ⊎_elim, Some, None, Result, Err, refl, sym, ap, ◌∙◌, subst}
use Rattle.node_steps.specs.declared.refusal.Refusal.{Refusal}
use Rattle.raft_log.specs.declared.message.Message.{Message}
use Rattle.raft_node.specs.declared.input.Input.{Input}
use Rattle.raft_node.specs.declared.input.Output.{Output}
use Rattle.raft_node.specs.declared.node_fault.Cause.{Cause}
use Rattle.raft_node.specs.declared.node_fault.NodeFault.{NodeFault}
use Rattle.raft_node.specs.declared.node_fault.NodeFault.TheVariants.{Down, Refused}
use Rattle.raft_node.specs.Inputs as inputs
use Rattle.raft_node.specs.Machine.{Machine}
use Rattle.raft_node.specs.Parts.{Keeper}
use Rattle.raft_node.specs.Stepping.{IsActed, IsDeclined, IsDowned, given}
use Rattle.raft_node.specs.Steps.{Act, Out, effects_of}
use Rattle.raft_node.specs.Steps as steps
use Rattle.world_run.specs.declared.outcome.Outcome.TheVariants as outcome
use Rattle.world_run.specs.Told.{out_of}
use Rattle.world_views.specs.Inputs.{NodeInput}
use Rattle.raft_node.specs.declared.input.Input.TheVariants.{Timeout, Beat, Deliver, Ask, Opened, Closed, Heard, Claim, Apply}
use Rattle.world_views.specs.Own.{act_of}
use Rattle.node_cells.specs.Books.{OutcomeOf}
use Rattle.node_cells.specs.Inputs.{input_of}
use Rattle.node_cells.specs.Turns.{IsGiven}
use Rattle.node_cells.proofs.Showing.{Inner}

module _ (M : Machine) where
  pub act_same : (x : NodeInput M.Body M.Line) → inputs.act_of M (input_of x) ≡ act_of M x
  act_same Timeout = refl
  act_same Beat = refl
  act_same (Deliver e) = refl
  act_same (Ask body) = refl
  act_same Opened = refl
  act_same Closed = refl
  act_same (Heard at line) = refl
  act_same Claim = refl
  act_same Apply = refl

  -- the act of the input that the node took, of which the record has a copy
  pub same_act : (x copy : NodeInput M.Body M.Line) (y : Input (Message M.Body) M.Body M.Line) → y ≡ input_of x → copy ≡ x → inputs.act_of M y ≡ act_of M copy
  same_act x copy y e same = ap (λ (z : Input (Message M.Body) M.Body M.Line). inputs.act_of M z) (e ∙ ap input_of (sym same)) ∙ act_same copy

  abbrev Answer : Type 0
  Answer = Result (Output M.Body M.Effect) NodeFault

  module _ {Setup Hosted Store : Type 0} (k : Keeper Store M.Body) (a : Act M) (q q' : Inner M Setup Hosted Store) where
    pub refused_case : (fault : NodeFault) (refusal : Refusal) → fault ≡ Refused refusal → IsActed M k a q (Err fault) q' → IsDeclined M a q refusal q'
    refused_case fault refusal e h = subst (λ (f : NodeFault). let r : Answer = Err f in IsActed M k a q r q') e h

    pub down_case : (fault : NodeFault) → ((refusal : Refusal) → fault ≡ Refused refusal → ⊥) → q.down ≡ None → IsActed M k a q (Err fault) q' → (cause : Cause) × IsDowned M k a q cause q'
    down_case (Refused refusal) other up h = absurd (other refusal refl)
    down_case (Down cause) other up h =
        ⊎_elim (λ (d : IsDowned M k a q cause q'). (cause, d)) (λ e. absurd (let z : None ≡ Some cause = sym up ∙ e.0 in cc z)) h

module _ (M : Machine) where
  -- what is given is what comes out
  pub given_out : (place : ℕ) (effects : List M.Effect) (o : OutcomeOf M) → IsGiven place effects o → out_of M o ≡ given {M = M} place effects
  given_out zero effects outcome.Quiet h = refl
  given_out (suc place) effects outcome.Quiet h = absurd (cc h)
  given_out zero effects (outcome.Left p left) h = absurd (let lt = h.1 in omega arith)
  given_out (suc place) effects (outcome.Left p left) h = λ d. steps.Left (h.0 d) (h.2 d)
  given_out place effects (outcome.Looked p lines) h = absurd h
  given_out place effects (outcome.Refused refusal) h = absurd h
  given_out place effects outcome.Missing h = absurd h

  pub given_effects : (place : ℕ) (effects : List M.Effect) → (place ≡ 0 → effects ≡ []) → effects_of (given {M = M} place effects) ≡ effects
  given_effects zero effects h = sym (h refl)
  given_effects (suc place) effects h = refl
