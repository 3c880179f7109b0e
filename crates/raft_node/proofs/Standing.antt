-- A node stays whole when a step that it planned takes effect.
use Rattle.std.proofs.Common.{◌≡◌, ℕ, false, List, [], ◌++◌, Option, Some, length, take, sym, ap, subst, ◌∙◌}
use Rattle.machine_laws.specs.declared.class.Class.TheVariants.{Nowhere}
use Rattle.raft_log.specs.declared.message.Message.{Message}
use Rattle.raft_log.specs.declared.entry.Entry.{Entry}
use Rattle.raft_log.specs.declared.node_state.NodeState.{NodeState}
use Rattle.raft_log.specs.declared.step.Step.{Step}
use Rattle.raft_log.specs.Node.{Node}
use Rattle.raft_log.specs.Positions.{live_of}
use Rattle.raft_log.specs.Seen.{node_of, seen}
use Rattle.raft_log.specs.Steps.{log_after}
use Rattle.node_steps.specs.Plans.{CountsLines, Goes, IsStepOf}
use Rattle.raft_node.specs.declared.input.Input.{Input}
use Rattle.raft_node.specs.Inputs.{Bodies, act_of, input_plan, is_apply}
use Rattle.raft_node.specs.Kept.{MayStand}
use Rattle.raft_node.specs.Machine.{Machine, history}
use Rattle.raft_node.specs.Parts.{size_of}
use Rattle.raft_node.specs.Sound.{IsSound}
use Rattle.raft_node.specs.Steps.{Acts, Turn, quiet, turn, applied}
use Rattle.raft_node.proofs.Counting.{goes_counts}
use Rattle.raft_node.proofs.Fares.{Turned, GoesOn, Applied, turn_step}
use Rattle.raft_node.proofs.Keeps.{stays_sound, turn_keeps_applied}
use Rattle.raft_node.proofs.Planned.{turn_goes}

-- what a step that is planned keeps
pub record Keeps {B : Type 0} (size : ℕ) (s t : Node B) : Type 0 where
  pub sound : IsSound size t
  pub front : take s.applied t.log ≡ take s.applied s.log
  pub applied : t.applied ≡ s.applied

module _ (M : Machine) (size i : ℕ) (s : Node M.Body) where
  not_applied : (t : Node M.Body) (u : Turn M) → u ≡ quiet M t → Turned M i s u → t.applied ≡ s.applied
  not_applied t u e (GoesOn f o) = sym (ap (λ (x : Turn M). x.node.applied) e) ∙ f.applied_is
  not_applied t u e (Applied x lt at f) =
      let outs : (quiet M t).out ≡ (applied M i s (Some x)).out = ap (λ (y : Turn M). y.out) (sym e ∙ f) in
      absurd (cc outs)

module _ {B L : Type 0} (b : Bodies B L) (next : Option ℕ) where
  -- a machine with these bodies that does nothing
  abbrev plain : Machine
  plain =
      record {
        Body = B;
        Effect = Unit {0};
        Line = L;
        Target = Unit {0};
        Played = Unit {0};
        blank = b.blank;
        opened = b.opened;
        shut = b.shut;
        heard = b.heard;
        claim = b.claim;
        source = b.source;
        effects = λ h place body. [];
        next_claim = λ h. next;
        playback = λ h target. [];
        class = λ e. Nowhere;
      }

  pub goes_keeps : (size i : ℕ) (input : Input (Message B) B L) → is_apply input ≡ false → (s t : Node B) → IsSound size s
      → input_plan b next size i input s ≡ Goes t → Keeps size s t
  goes_keeps size i input h s t sound e =
      let turns : turn plain size i (act_of plain input) s ≡ quiet plain t = turn_goes plain s size i input h t e in
      record {
        sound = subst (λ (u : Turn plain). IsSound size u.node) turns (stays_sound plain size i (Acts (act_of plain input)) s sound);
        front = subst (λ (u : Turn plain). take s.applied u.node.log ≡ take s.applied s.log) turns (turn_keeps_applied plain size i (act_of plain input) s sound).0;
        applied = not_applied plain size i s t (turn plain size i (act_of plain input) s) turns (turn_step plain size i s (record { of = sound.2 }) (act_of plain input));
      }

  -- a step that is planned may take effect
  pub may_stand : (i : ℕ) (input : Input (Message B) B L) → is_apply input ≡ false → (state : NodeState B) (step : Step B) → IsSound (size_of state) (seen state [])
      → CountsLines (live_of state.standing.position) (length state.log)
      → IsStepOf (input_plan b next (size_of state) i input) state.standing state.log step → length step.standing.peers.voters ≡ step.standing.peers.size
      → MayStand state step
  may_stand i input h state step sound counts of voters =
      let now : Node B = node_of step.standing (log_after state.log step) ([] ++ step.messages.items) in
      let k : Keeps (size_of state) (seen state []) now = goes_keeps (size_of state) i input h (seen state []) now sound (of.goes []) in
      let size : step.standing.peers.size ≡ size_of state = sym voters ∙ k.sound.4.0 in
      record {
        savable = of.savable;
        sound = k.sound;
        counts = goes_counts b next (size_of state) i (seen state []) (record { of = sound.2 }) input now (of.goes []) counts;
        applied =
            ap (λ (n : ℕ). history (take n (log_after state.log step))) k.applied ∙ ap (λ (l : List (Entry B)). history l) k.front;
        size = size;
      }
