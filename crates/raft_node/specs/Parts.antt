-- What a node keeps, and what holds for it.
use Rattle.std.specs.Prelude.{◌≡◌, ◌≤◌, ◌⊎◌, ℕ, [], length, take, Option, None}
use Rattle.machine_laws.specs.Runs.{History}
use Rattle.raft_log.specs.declared.node_state.NodeState.{NodeState}
use Rattle.raft_log.specs.Node.{Node}
use Rattle.raft_log.specs.Positions.{live_of}
use Rattle.raft_log.specs.Seen.{seen}
use Rattle.stable_store.specs.declared.saved.Saved.{Saved}
use Rattle.stable_store.specs.Stores.{Condition, HasRisen, IsHonest, Serves}
use Rattle.node_steps.specs.Plans.{CountsLines}
use Rattle.raft_node.specs.declared.node_fault.Cause.{Cause}
use Rattle.raft_node.specs.declared.node_fault.Cause.TheVariants.{Store as StoreFailed, Memory}
use Rattle.raft_node.specs.Machine.{history}
use Rattle.raft_node.specs.Sound.{IsSound}

-- its number, its machine with the setup, its store and its state, and why it is down, if it is
pub record Parts (Setup Hosted Store B : Type 0) : Type 0 where
  pub id : ℕ
  pub setup : Setup
  pub machine : Hosted
  pub store : Store
  pub state : NodeState B
  pub down : Option Cause

-- a store, by what its trait says of it: what it holds, what it may hold if it were read anew, and its condition
pub record Keeper (Store B : Type 0) : Type 1 where
  pub saved : Store → Saved B
  pub may_stand : Store → Saved B → Type 0
  pub condition : Store → Condition

module _ {B : Type 0} where
  -- the size of the group
  abbrev pub size_of : NodeState B → ℕ
  size_of state = state.standing.peers.size

  -- the bodies that were applied, with their places
  abbrev pub applied_bodies : NodeState B → History B
  applied_bodies state = history (take state.standing.applied state.log)

  -- what is to be saved of a node
  abbrev pub saved_by : Node B → Saved B
  saved_by s = record { boot = s.boot; term = s.term; vote = s.vote; log = s.log }

module _ {Store B : Type 0} where
  -- the store with these parts
  abbrev pub keeper : (Store → Saved B) → (Store → Saved B → Type 0) → (Store → Condition) → Keeper Store B
  keeper saved may_stand condition = record { saved = saved; may_stand = may_stand; condition = condition }

  -- an honest store serves, and holds what is to be saved of this state
  abbrev pub Holds : Keeper Store B → Store → NodeState B → Type 0
  Holds k store state = IsHonest (k.condition store) → Serves (k.condition store) × (k.saved store ≡ saved_by (seen state []))

  -- what an honest store may hold is saved of this state, or of this node
  abbrev pub MayHold : Keeper Store B → Store → NodeState B → Node B → Type 0
  MayHold k store state after =
      IsHonest (k.condition store) → (v : Saved B) → k.may_stand store v
      → (v ≡ saved_by (seen state [])) ⊎ (v ≡ saved_by after)

-- an honest store is the cause only if one more of its device's calls failed, and memory only if none did
abbrev pub IsBlamed : Cause → Condition → Condition → Type 0
IsBlamed Memory old new = IsHonest old → new.failures ≡ old.failures
IsBlamed StoreFailed old new = IsHonest old → HasRisen old.failures new.failures

-- Its number is one of the group, its state is sound, and the lines of a live session are entries. While it is up its
-- machine has taken what it applied, and an honest store holds what is to be saved.
pub record IsWhole {Setup Hosted Store B : Type 0} (stands : Hosted → Setup → History B → Type 0) (k : Keeper Store B) (n : Parts Setup Hosted Store B) : Type 0 where
  pub in_group : (1 ≤ n.id) × (n.id ≤ size_of n.state)
  pub sound : IsSound (size_of n.state) (seen n.state [])
  pub counts : CountsLines (live_of n.state.standing.position) (length n.state.log)
  pub runs : n.down ≡ None → stands n.machine n.setup (applied_bodies n.state)
  pub holds : n.down ≡ None → Holds k n.store n.state
