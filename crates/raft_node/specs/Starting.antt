-- The result of a start of a node from its store.
use Rattle.std.specs.Prelude.{◌≡◌, ◌≤◌, ◌⊎◌, ℕ, suc, IsTrue, List, [], None, Some, Result, Ok, Err, OnOk}
use Rattle.raft_log.specs.declared.message.Message.{Message}
use Rattle.raft_log.specs.declared.node_state.NodeState.{NodeState}
use Rattle.raft_log.specs.Node.{Node}
use Rattle.raft_log.specs.Seen.{seen}
use Rattle.stable_store.specs.declared.saved.Saved.{Saved}
use Rattle.stable_store.specs.Stores.{Condition, HasRisen, IsHonest}
use Rattle.node_steps.specs.declared.refusal.Refusal.TheVariants.{LogFull, TermsSpent, NoLeader, Behind, BadOrigin}
use Rattle.raft_node.specs.declared.node_fault.Cause.TheVariants.{Store as StoreFailed, Memory}
use Rattle.raft_node.specs.declared.node_fault.NodeFault.{NodeFault}
use Rattle.raft_node.specs.declared.node_fault.NodeFault.TheVariants.{Down, Refused}
use Rattle.raft_node.specs.Faults.{cause_after}
use Rattle.raft_node.specs.Parts.{Holds, Keeper, Parts, saved_by, size_of}
use Rattle.raft_node.specs.Raft.{started}
use Rattle.raft_node.specs.Stepping.{IsSameNode}
use Rattle.wire_bytes.specs.Limits.{number_limit}

module _ {B : Type 0} where
  -- the run that begins with what was saved by the one before
  abbrev pub begun : ℕ → Saved B → List (Message B) → Node B
  begun size v sent = started size (suc v.boot) v.term v.vote v.log sent

  -- the state of a run that began with this
  abbrev pub BeganWith : ℕ → Saved B → NodeState B → Type 0
  BeganWith size v state = (sent : List (Message B)) → seen state sent ≡ begun size v sent

  -- some saved state of which this holds, and the one of a run that began with it
  abbrev pub Begins : ℕ → (Saved B → Type 0) → NodeState B → Type 0
  Begins size stood state = (v : Saved B) × stood v × BeganWith size v state × (size_of state ≡ size)

module _ {Store B : Type 0} (k : Keeper Store B) where
  -- why a start from an honest store fails: all boots were made, its device failed in this call or had failed before,
  -- or memory ran out and no call of its device failed
  abbrev pub MayFail : Store → Condition → NodeFault → Type 0
  MayFail old now (Down Memory) = IsHonest (k.condition old) → now.failures ≡ (k.condition old).failures
  MayFail old now (Down StoreFailed) =
      IsHonest (k.condition old) → HasRisen (k.condition old).failures now.failures ⊎ IsTrue (k.condition old).broken
  MayFail old now (Refused TermsSpent) =
      IsHonest (k.condition old) → (v : Saved B) × k.may_stand old v × (number_limit ≤ v.boot)
  MayFail old now (Refused LogFull) = ⊥
  MayFail old now (Refused NoLeader) = ⊥
  MayFail old now (Refused (Behind applied)) = ⊥
  MayFail old now (Refused BadOrigin) = ⊥

  -- what an honest store may hold it may have held before, or it is saved of a run that began with such
  abbrev pub MayBegin : ℕ → Store → Store → Type 0
  MayBegin size old new =
      IsHonest (k.condition old) → (v : Saved B) → k.may_stand new v
      → k.may_stand old v ⊎ ((u : Saved B) × k.may_stand old u × (v ≡ saved_by (begun size u [])))

  -- what an honest store may hold
  abbrev pub MayHaveStood : Store → Saved B → Type 0
  MayHaveStood store v = IsHonest (k.condition store) → k.may_stand store v

  -- by the answer to beginning a run: its state, which the store holds, or why there is none
  abbrev pub HasBegun : ℕ → Store → Result (NodeState B) NodeFault → Store → Type 0
  HasBegun size old (Ok state) new = Begins size (MayHaveStood old) state × Holds k new state
  HasBegun size old (Err fault) new = MayFail old (k.condition new) fault

  -- A run began over a store, and no call of its device failed, or did not.
  pub record IsBegun (size : ℕ) (old : Store) (result : Result (NodeState B) NodeFault) (new : Store) : Type 0 where
    pub honest : (k.condition new).honest ≡ (k.condition old).honest
    pub counts : (k.condition old).failures ≤ (k.condition new).failures
    pub passed : IsHonest (k.condition old) → OnOk result ((k.condition new).failures ≡ (k.condition old).failures)
    pub answers : HasBegun size old result new
    pub may_begin : MayBegin size old new

module _ {Setup Hosted Store B : Type 0} (k : Keeper Store B) where
  -- A node of this number, size and setup began a run over this store.
  pub record IsFirst (id size : ℕ) (setup : Setup) (store : Store) (n : Parts Setup Hosted Store B) : Type 0 where
    pub id_is : n.id ≡ id
    pub setup_is : n.setup ≡ setup
    pub is_up : n.down ≡ None
    pub honest : (k.condition n.store).honest ≡ (k.condition store).honest
    pub begins : Begins size (MayHaveStood k store) n.state
    pub holds : Holds k n.store n.state

  -- what a start answers; if it went down, the cause follows from what became of the store, and a refusal says that all
  -- boots were made
  abbrev pub IsStarted : ℕ → ℕ → Setup → Store → Result (Parts Setup Hosted Store B) NodeFault → Type 0
  IsStarted id size setup store (Ok n) = IsFirst id size setup store n
  IsStarted id size setup store (Err (Down cause)) =
      (new : Store) × ((k.condition new).honest ≡ (k.condition store).honest) × MayFail k store (k.condition new) (Down cause)
  IsStarted id size setup store (Err (Refused refusal)) = MayFail k store (k.condition store) (Refused refusal)

  -- by what a restart answers; if it fails the node shows the state from before, and is down
  abbrev pub HasRestarted : Parts Setup Hosted Store B → Result (Unit {0}) NodeFault → Parts Setup Hosted Store B → Type 0
  HasRestarted old (Ok done) new =
      (new.down ≡ None) × Begins (size_of old.state) (MayHaveStood k old.store) new.state × Holds k new.store new.state
  HasRestarted old (Err fault) new =
      (new.down ≡ Some (cause_after fault)) × (new.state ≡ old.state) × MayFail k old.store (k.condition new.store) fault

  -- A node was started again from its store, or was not.
  pub record IsRestarted (old : Parts Setup Hosted Store B) (result : Result (Unit {0}) NodeFault) (new : Parts Setup Hosted Store B) : Type 0 where
    pub same : IsSameNode k old new
    pub answers : HasRestarted old result new
    pub may_begin : MayBegin k (size_of old.state) old.store new.store
