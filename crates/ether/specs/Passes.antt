-- What a clause says of an ether and its passes.
use Rattle.std.specs.Prelude.{◌≡◌, ◌<◌, ◌≤◌, ℕ, suc, Bool, true, List, [], ◌∷◌, length, map, Some, None}
use Rattle.atomic_table.specs.Seated.{TableId}
use Rattle.raft_log.specs.Lists.{item}
use Rattle.raft_node.specs.Machine.{Machine}
use Rattle.raft_node.specs.Parts.{Keeper, Parts}
use Rattle.raft_node.specs.Starting.{IsFirst}
use Rattle.world_views.specs.declared.envelope.Envelope.{Envelope}
use Rattle.world_views.specs.declared.node_event.NodeEvent.{NodeEvent}
use Rattle.world_views.specs.Rule.{IsRule}
use Rattle.world_views.specs.Views.{IsAt, View, IsOpened, brings}
use Rattle.ether.specs.declared.pass.Pass.{Pass}
use Rattle.ether.specs.Plays.{holding}
use Rattle.ether.specs.Rule.{Look, blank, full}
use Rattle.wire_bytes.specs.Limits.{number_limit}

-- an ether: its table, how many nodes it is for, and the setup of the machine that each hosts
pub record EtherParts (Setup : Type 0) : Type 0 where
  pub table : TableId
  pub size : ℕ
  pub setup : Setup

module _ {B L T : Type 0} where
  -- the first of these views, or this one if there is none
  abbrev pub first_or : View B L T → List (View B L T) → View B L T
  first_or v [] = v
  first_or v (w ∷ ws) = w

  -- what the pass's node did, as the pass knows it
  abbrev pub view_of : Pass B L T → View B L T
  view_of p = first_or (blank 0 0) p.seat.me.0.views

  -- the mailboxes that it looked into, by posts and takes, and what was in each, in order
  abbrev pub looks_of : Pass B L T → List (Look B)
  looks_of p = p.seat.me.0.looks

  -- A pass of the ether with this table, for this many nodes. Its spare slot is at home until the opening, or an
  -- earlier take that finds a message.
  pub record IsPassAt (table : TableId) (size : ℕ) (p : Pass B L T) : Type 0 where
    pub of_table : p.seat.table_id ≡ table
    pub out : Bool
    pub me : p.seat.me ≡ holding out p.spare (looks_of p) (view_of p)
    pub node : (view_of p).node ≡ p.node
    pub near : p.node < size
    pub slot : p.spare < full
    pub many : (view_of p).size ≡ size
    pub ticks : p.ticks ≡ length (view_of p).turns
    pub few : p.ticks ≤ number_limit

  -- the pass was opened, and its spare slot is out
  abbrev pub IsOpen : Pass B L T → Type 0
  IsOpen p = IsOpened (view_of p) × (p.seat.me ≡ holding true p.spare (looks_of p) (view_of p))

  -- it was not
  abbrev pub IsUnopened : Pass B L T → Type 0
  IsUnopened p = (view_of p).opened ≡ None

  -- the pass is unchanged
  abbrev pub IsSamePass : Pass B L T → Pass B L T → Type 0
  IsSamePass old new =
      (view_of new ≡ view_of old) × (looks_of new ≡ looks_of old) × (new.node ≡ old.node) × (IsOpen old → IsOpen new)

  -- the event's message, if it has one, was heard
  abbrev pub IsHeard : View B L T → NodeEvent B L T → Type 0
  IsHeard v e = (m : Envelope B) → brings e ≡ Some m → (k : ℕ) × IsAt v.heard k m

  -- the envelope has a message that the node sent, with its number
  abbrev pub IsSent : View B L T → Envelope B → Type 0
  IsSent v e = (e.message.from ≡ suc v.node) × (v.honest ≡ true → item v.state.sent e.number ≡ Some e.message)

  -- passes of all nodes, in order, to which nothing happened yet
  abbrev pub AreNewAt : TableId → ℕ → List (Pass B L T) → Type 0
  AreNewAt table size ps =
      (i : ℕ) (p : Pass B L T) → IsAt ps i p → IsPassAt table size p × (p.node ≡ i) × (view_of p ≡ blank size i) × (looks_of p ≡ [])

module _ {Setup B L T : Type 0} where
  -- a pass of this ether
  abbrev pub IsPass : EtherParts Setup → Pass B L T → Type 0
  IsPass e p = IsPassAt e.table e.size p

  -- passes of this ether, in order, to which nothing happened yet
  abbrev pub AreNew : EtherParts Setup → List (Pass B L T) → Type 0
  AreNew e ps = AreNewAt e.table e.size ps

  -- passes of all nodes of this ether, in order
  abbrev pub ArePassesOfAll : EtherParts Setup → List (Pass B L T) → Type 0
  ArePassesOfAll e ps = (length ps ≡ e.size) × ((i : ℕ) (p : Pass B L T) → IsAt ps i p → IsPass e p × (p.node ≡ i))

  -- a pass of this ether that was opened
  abbrev pub IsOpenPass : EtherParts Setup → Pass B L T → Type 0
  IsOpenPass e p = IsPass e p × IsOpen p

  -- the same pass of this ether, opened
  abbrev pub StaysOpen : EtherParts Setup → Pass B L T → Pass B L T → Type 0
  StaysOpen e old new = IsOpenPass e new × (new.node ≡ old.node)

-- a node as a start gave it: of this number, in a group of this size, with this setup
abbrev pub WasStarted : {Setup Hosted Store B : Type 0} → Keeper Store B → ℕ → ℕ → Setup → Parts Setup Hosted Store B → Type 0
WasStarted {Store = Store} k id size setup n = (store : Store) × IsFirst k id size setup store n

-- the passes of all nodes, in order: their views are those of one moment
pub record AllMeet (M : Machine) (size : ℕ) (passes : List (Pass M.Body M.Line M.Target)) : Type 0 where
  pub next : ℕ
  pub rule : IsRule M size next (map view_of passes)
