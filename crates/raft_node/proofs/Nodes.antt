-- A node that is up, whose step takes effect, or that goes down; what is kept by that.
use Rattle.std.proofs.Common.{◌≡◌, ℕ, ◌≤◌, [], None, Some, Result, Ok, Err, length, refl, sym, ap, subst, ◌∙◌, arith}
use Rattle.machine_laws.specs.Runs.{History}
use Rattle.raft_log.specs.declared.node_state.NodeState.{NodeState}
use Rattle.raft_log.specs.declared.step.Step.{Step}
use Rattle.raft_log.specs.Positions.{live_of}
use Rattle.raft_log.specs.Seen.{seen}
use Rattle.raft_log.specs.Steps.{after}
use Rattle.node_steps.specs.Plans.{CountsLines}
use Rattle.raft_node.specs.declared.input.Output.{Output}
use Rattle.raft_node.specs.declared.node_fault.Cause.{Cause}
use Rattle.raft_node.specs.declared.node_fault.NodeFault.{NodeFault}
use Rattle.raft_node.specs.declared.node_fault.NodeFault.TheVariants.{Down}
use Rattle.raft_node.specs.Kept.{IsKept, MayStand}
use Rattle.raft_node.specs.Parts.{Holds, IsWhole, Keeper, Parts, size_of}
use Rattle.raft_node.specs.Sound.{IsSound}
use Rattle.raft_node.specs.Stood.{IsStood}

abbrev done : {A : Type 0} → A → Result A Cause
done a = Ok a

abbrev failed : {A : Type 0} → Cause → Result A Cause
failed cause = Err cause

module _ {Setup Hosted Store B : Type 0} (stands : Hosted → Setup → History B → Type 0) (k : Keeper Store B) where
  -- what is down holds no store and runs no machine
  pub down_whole : (n : Parts Setup Hosted Store B) (machine : Hosted) (store : Store) (state : NodeState B) (cause : Cause) → IsWhole stands k n
      → state ≡ n.state → IsWhole stands k (record n { machine = machine; store = store; state = state; down = Some cause })
  down_whole n machine store state cause w e =
      record {
        in_group = subst (λ (s : NodeState B). (1 ≤ n.id) × (n.id ≤ size_of s)) (sym e) w.in_group;
        sound = subst (λ (s : NodeState B). IsSound (size_of s) (seen s [])) (sym e) w.sound;
        counts = subst (λ (s : NodeState B). CountsLines (live_of s.standing.position) (length s.log)) (sym e) w.counts;
        runs = λ up. absurd (cc up);
        holds = λ up. absurd (cc up);
      }

  module _ (n old : Parts Setup Hosted Store B) (same : n ≡ old) (step : Step B) (may : MayStand old.state step) (up : old.down ≡ None) (w : IsWhole stands k n) where
    may_here : MayStand n.state step
    may_here = subst (λ (x : Parts Setup Hosted Store B). MayStand x.state step) (sym same) may

    up_here : n.down ≡ None
    up_here = subst (λ (x : Parts Setup Hosted Store B). x.down ≡ None) (sym same) up

    pub holds_here : Holds k n.store n.state
    holds_here = w.holds up_here

    whole_after : (store : Store) → Holds k store (after n.state step) → IsWhole stands k (record n { store = store; state = after n.state step })
    whole_after store h =
        let m : MayStand n.state step = may_here in
        record {
          in_group = (w.in_group.0, omega (arith, w.in_group.1, m.size));
          sound = subst (λ (size : ℕ). IsSound size (seen (after n.state step) [])) (sym m.size) m.sound;
          counts = m.counts;
          runs = λ up. subst (λ (h : History B). stands n.machine n.setup h) (sym m.applied) (w.runs up);
          holds = λ up. h;
        }

    pub stands_whole : {A : Type 0} (a : A) (store : Store) (state : NodeState B) → IsKept k n.store n.state (after n.state step) store state (done a)
        → IsWhole stands k (record n { store = store; state = state })
    stands_whole a store state h =
        subst (λ (s : NodeState B). IsWhole stands k (record n { store = store; state = s })) (sym h.stands.0) (whole_after store h.stands.1)

    pub falls_whole : {A : Type 0} (cause : Cause) (store : Store) (state : NodeState B) → IsKept k {A = A} n.store n.state (after n.state step) store state (failed cause)
        → IsWhole stands k (record n { store = store; state = state; down = Some cause })
    falls_whole cause store state h = down_whole n n.machine store state cause w h.blamed.0

    module _ {E : Type 0} (output : Output B E) (store : Store) (state : NodeState B) where
      abbrev answered : Result (Output B E) NodeFault
      answered = Ok output

      pub stood : {A : Type 0} (a : A) → IsKept k n.store n.state (after n.state step) store state (done a)
          → output.messages.items ≡ step.messages.items → output.place ≡ 0 → output.effects.items ≡ []
          → IsStood k step old answered (record n { store = store; state = state })
      stood a h sent place effects =
          subst (λ (x : Parts Setup Hosted Store B). IsStood k step x answered (record n { store = store; state = state })) same (
            record {
              is_up = up_here;
              state = h.stands.0;
              sent = sent;
              place = place;
              effects = effects;
              holds = subst (λ (s : NodeState B). Holds k store s) (sym h.stands.0) h.stands.1;
            },
            record { id = refl; setup = refl; size = ap (λ (s : NodeState B). size_of s) h.stands.0 ∙ may_here.size; honest = h.honest },
          )

    module _ (E : Type 0) (cause : Cause) (store : Store) (state : NodeState B) where
      abbrev fallen : Result (Output B E) NodeFault
      fallen = Err (Down cause)

      pub fell : {A : Type 0} → IsKept k {A = A} n.store n.state (after n.state step) store state (failed cause)
          → IsStood k step old fallen (record n { store = store; state = state; down = Some cause })
      fell h =
          subst (λ (x : Parts Setup Hosted Store B). IsStood k step x fallen (record n { store = store; state = state; down = Some cause })) same (
            record { is_down = refl; state = h.blamed.0; blamed = h.blamed.1; may_hold = h.may_hold },
            record { id = refl; setup = refl; size = ap (λ (s : NodeState B). size_of s) h.blamed.0; honest = h.honest },
          )
