-- The result of a save, and of a step that is saved and takes effect.
use Rattle.std.specs.Prelude.{◌≡◌, ◌≤◌, ◌⊎◌, ℕ, [], length, Result, IfErr, OnOk}
use Rattle.raft_log.specs.declared.node_state.NodeState.{NodeState}
use Rattle.raft_log.specs.declared.node_state.Standing.{Standing}
use Rattle.raft_log.specs.declared.step.Step.{Step}
use Rattle.raft_log.specs.Positions.{live_of}
use Rattle.raft_log.specs.Seen.{seen}
use Rattle.raft_log.specs.Steps.{IsSavable, after, log_after}
use Rattle.stable_store.specs.declared.saved.Saved.{Saved}
use Rattle.stable_store.specs.Changes.{ChangeParts}
use Rattle.stable_store.specs.Stores.{IsHonest, MayFollow, Serves, changed}
use Rattle.raft_node.specs.declared.node_fault.Cause.{Cause}
use Rattle.node_steps.specs.Plans.{CountsLines}
use Rattle.raft_node.specs.Parts.{Holds, IsBlamed, Keeper, MayHold, applied_bodies, size_of}
use Rattle.raft_node.specs.Sound.{IsSound}

module _ {Store B : Type 0} (k : Keeper Store B) where
  -- an honest store serves, and this change may follow what it holds
  abbrev pub MayTake : Store → ChangeParts B → Type 0
  MayTake store c = IsHonest (k.condition store) → Serves (k.condition store) × MayFollow (k.saved store) c

  -- A change was saved, or not: after Ok the store holds it, and no call of the device failed; else the store may hold
  -- what it held before, or the change.
  pub record IsTaken {A : Type 0} (old : Store) (c : ChangeParts B) (new : Store) (result : Result A Cause) : Type 0 where
    pub honest : (k.condition new).honest ≡ (k.condition old).honest
    pub counts : (k.condition old).failures ≤ (k.condition new).failures
    pub done : IsHonest (k.condition old) → OnOk result (Serves (k.condition new) × (k.saved new ≡ changed (k.saved old) c))
    pub passed : IsHonest (k.condition old) → OnOk result ((k.condition new).failures ≡ (k.condition old).failures)
    pub blamed : IfErr result (λ cause. IsBlamed cause (k.condition old) (k.condition new))
    pub may_stand : IsHonest (k.condition old) → (v : Saved B) → k.may_stand new v → (v ≡ k.saved old) ⊎ (v ≡ changed (k.saved old) c)

  -- A step of a state was saved and took effect, or neither; if it was not, the store may hold what is saved of the
  -- state or of this node.
  pub record IsKept {A : Type 0} (old : Store) (state : NodeState B) (after : NodeState B) (new : Store) (now : NodeState B) (result : Result A Cause) : Type 0 where
    pub honest : (k.condition new).honest ≡ (k.condition old).honest
    pub stands : OnOk result ((now ≡ after) × Holds k new after)
    pub blamed : IfErr result (λ cause. (now ≡ state) × IsBlamed cause (k.condition old) (k.condition new))
    pub may_hold : MayHold k new state (seen after [])

-- neither term, vote nor log change
abbrev pub IsStill : {B : Type 0} → NodeState B → Standing → ℕ → ℕ → Type 0
IsStill state standing keep added =
    (standing.term ≡ state.standing.term) × (standing.vote ≡ state.standing.vote)
    × (keep ≡ length state.log) × (added ≡ 0)

-- A step may take effect: it may be saved, the node is sound then, its machine has taken the same bodies, and its group
-- is the same.
pub record MayStand {B : Type 0} (state : NodeState B) (step : Step B) : Type 0 where
  pub savable : IsSavable state.standing state.log step
  pub sound : IsSound (size_of state) (seen (after state step) [])
  pub counts : CountsLines (live_of step.standing.position) (length (log_after state.log step))
  pub applied : applied_bodies (after state step) ≡ applied_bodies state
  pub size : size_of (after state step) ≡ size_of state
