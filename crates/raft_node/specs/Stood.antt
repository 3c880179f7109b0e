-- The result of a step that is saved and takes effect, and of an entry that is applied, at a node that is up.
use Rattle.std.specs.Prelude.{◌≡◌, ◌<◌, ◌≤◌, ◌⊎◌, ℕ, suc, List, [], None, Some, Result, Ok, Err, filter}
use Rattle.irc_line.specs.Lines.{Parts as LineParts}
use Rattle.machine_laws.specs.declared.class.Class.{Class}
use Rattle.machine_laws.specs.Runs.{History}
use Rattle.raft_log.specs.declared.entry.Entry.{Entry}
use Rattle.raft_log.specs.declared.node_state.NodeState.{NodeState}
use Rattle.raft_log.specs.declared.step.Step.{Step}
use Rattle.raft_log.specs.Lists.{item}
use Rattle.raft_log.specs.Positions.{live_of}
use Rattle.raft_log.specs.Seen.{seen}
use Rattle.raft_log.specs.Steps.{after}
use Rattle.raft_node.specs.declared.input.Output.{Output}
use Rattle.raft_node.specs.declared.node_fault.Cause.{Cause}
use Rattle.raft_node.specs.declared.node_fault.Cause.TheVariants.{Memory}
use Rattle.raft_node.specs.declared.node_fault.NodeFault.{NodeFault}
use Rattle.raft_node.specs.declared.node_fault.NodeFault.TheVariants.{Down, Refused}
use Rattle.raft_node.specs.Parts.{Holds, IsBlamed, Keeper, MayHold, Parts, applied_bodies}
use Rattle.raft_node.specs.Steps.{leaves}
use Rattle.raft_node.specs.Stepping.{IsSameNode}

module _ {B : Type 0} where
  -- the same state, with the next place applied
  abbrev pub one_applied : NodeState B → NodeState B
  one_applied state = record state { standing = record state.standing { applied = suc state.standing.applied } }

module _ {Setup Hosted Store B : Type 0} where
  -- The node went down: it shows the state from before, and an honest store may hold that or the result of the step.
  pub record Falls (k : Keeper Store B) (step : Step B) (old : Parts Setup Hosted Store B) (cause : Cause) (new : Parts Setup Hosted Store B) : Type 0 where
    pub is_down : new.down ≡ Some cause
    pub state : new.state ≡ old.state
    pub blamed : IsBlamed cause (k.condition old.store) (k.condition new.store)
    pub may_hold : MayHold k new.store old.state (seen (after old.state step) [])

module _ {Setup Hosted Store B E : Type 0} where
  -- The step takes effect: its messages leave, and nothing else comes out.
  pub record Stands (k : Keeper Store B) (step : Step B) (old : Parts Setup Hosted Store B) (output : Output B E) (new : Parts Setup Hosted Store B) : Type 0 where
    pub is_up : new.down ≡ None
    pub state : new.state ≡ after old.state step
    pub sent : output.messages.items ≡ step.messages.items
    pub place : output.place ≡ 0
    pub effects : output.effects.items ≡ []
    pub holds : Holds k new.store new.state

  -- by what is answered; a step that is prepared is not refused
  abbrev pub HasStood : Keeper Store B → Step B → Parts Setup Hosted Store B → Result (Output B E) NodeFault → Parts Setup Hosted Store B → Type 0
  HasStood k step old (Ok output) new = Stands k step old output new
  HasStood k step old (Err (Down cause)) new = Falls k step old cause new
  HasStood k step old (Err (Refused refusal)) new = ⊥

  -- the result of a step that may take effect
  abbrev pub IsStood : Keeper Store B → Step B → Parts Setup Hosted Store B → Result (Output B E) NodeFault → Parts Setup Hosted Store B → Type 0
  IsStood k step old result new = HasStood k step old result new × IsSameNode k old new

  -- No entry is to be applied, and nothing comes out.
  pub record IsIdle (old : Parts Setup Hosted Store B) (output : Output B E) (new : Parts Setup Hosted Store B) : Type 0 where
    pub none : old.state.standing.commit ≤ old.state.standing.applied
    pub place : output.place ≡ 0
    pub effects : output.effects.items ≡ []
    pub same : new ≡ old

  -- The body of the next entry came to the machine: its effects that leave come out, with its place.
  pub record Applies (effects : Setup → History B → ℕ → B → List E) (class : E → Class LineParts) (k : Keeper Store B)
      (old : Parts Setup Hosted Store B) (output : Output B E) (new : Parts Setup Hosted Store B) : Type 0 where
    pub entry : Entry B
    pub committed : old.state.standing.applied < old.state.standing.commit
    pub stood : item old.state.log (suc old.state.standing.applied) ≡ Some entry
    pub place : output.place ≡ suc old.state.standing.applied
    pub effects_are : output.effects.items
        ≡ filter (λ e. leaves old.id old.state.standing.boot (live_of old.state.standing.position) (class e))
        (effects old.setup (applied_bodies old.state) (suc old.state.standing.applied) entry.body)
    pub state : new.state ≡ one_applied old.state
    pub is_up : new.down ≡ None
    pub holds : Holds k new.store new.state

  -- by what is answered; the node goes down only if memory runs out
  abbrev pub HasApplied : (Setup → History B → ℕ → B → List E) → (E → Class LineParts) → Keeper Store B
      → Parts Setup Hosted Store B → Result (Output B E) NodeFault → Parts Setup Hosted Store B → Type 0
  HasApplied effects class k old (Ok output) new =
      (output.messages.items ≡ []) × (IsIdle old output new ⊎ Applies effects class k old output new)
  HasApplied effects class k old (Err (Down cause)) new =
      (cause ≡ Memory) × (new.down ≡ Some Memory) × (new.state ≡ old.state) × (new.store ≡ old.store)
  HasApplied effects class k old (Err (Refused refusal)) new = ⊥

  -- the result of applying the next entry
  abbrev pub IsApplied : (Setup → History B → ℕ → B → List E) → (E → Class LineParts) → Keeper Store B
      → Parts Setup Hosted Store B → Result (Output B E) NodeFault → Parts Setup Hosted Store B → Type 0
  IsApplied effects class k old result new = HasApplied effects class k old result new × IsSameNode k old new
