-- What one node of a group did, as plain data.
use Rattle.std.specs.Prelude.{◌≡◌, ◌⊎◌, ◌<◌, ◌+◌, ℕ, pred, Bool, if◌then◌else◌, nat_lt, List, [], ◌∷◌, length, Option, Some, None}
use mathlib.Core.Option.{some}
use lib.ListN.{get_elem?}
use Rattle.raft_log.specs.Node.{Node}
use Rattle.world_views.specs.declared.envelope.Envelope.{Envelope}
use Rattle.world_views.specs.declared.node_event.NodeEvent.{NodeEvent}
use Rattle.world_views.specs.declared.node_event.NodeEvent.TheVariants.{Does, Look, Restart, StopIn}
use Rattle.world_views.specs.Inputs.{NodeInput}
use Rattle.raft_node.specs.declared.input.Input.TheVariants.{Timeout, Beat, Deliver, Ask, Opened, Closed, Heard, Claim, Apply}

-- this item is at a place of a list, from 0 on
abbrev pub IsAt : {A : Type 0} → List A → ℕ → A → Type 0
IsAt xs i x = get_elem? xs i ≡ some x

-- an event of one node, with the ticket that it drew
abbrev pub Ticketed : (B L T : Type 0) → Type 0
Ticketed B L T = ℕ × NodeEvent B L T

-- The view of one node
pub record View (B L T : Type 0) : Type 0 where
  pub size : ℕ  -- of how many nodes it is one
  pub node : ℕ  -- its place among them, from 0 on: node 1 has place 0
  pub honest : Bool  -- whether its store is honest
  pub opened : Option (ℕ × Node B)  -- the ticket of its opening, and the node as it was then started from its store
  pub turns : List (Ticketed B L T)  -- its record: what happened to it since
  pub state : Node B  -- the node's state
  pub heard : List (Envelope B)  -- the messages that it took
  pub posted : List ℕ  -- the numbers of the messages that it posted

module _ {B : Type 0} where
  -- the place of the node that sent a message, and of the node that it is to
  abbrev pub sender : Envelope B → ℕ
  sender e = pred e.message.from

  -- the place of the node that a message is to
  abbrev pub addressee : Envelope B → ℕ
  addressee e = pred e.message.to

  -- the node as it was opened; one that was not opened is this
  abbrev pub start_from : Node B → Option (ℕ × Node B) → Node B
  start_from s None = s
  start_from s (Some b) = b.1

  -- the opening drew this ticket
  abbrev pub OpenedAt : Option (ℕ × Node B) → ℕ → Type 0
  OpenedAt None t = ⊥
  OpenedAt (Some b) t = b.0 ≡ t

  -- how many tickets the opening drew
  abbrev pub opening_count : Option (ℕ × Node B) → ℕ
  opening_count None = 0
  opening_count (Some b) = 1

module _ {B L : Type 0} where
  -- the message that an input brings
  abbrev pub carries : NodeInput B L → Option (Envelope B)
  carries Timeout = None
  carries Beat = None
  carries (Deliver e) = Some e
  carries (Ask body) = None
  carries Opened = None
  carries Closed = None
  carries (Heard at line) = None
  carries Claim = None
  carries Apply = None

module _ {B L T : Type 0} where
  -- the message that an event brings
  abbrev pub brings : NodeEvent B L T → Option (Envelope B)
  brings (Does x) = carries x
  brings (Look from_place target) = None
  brings Restart = None
  brings (StopIn x after) = carries x

  -- the turns before a ticket
  abbrev pub upto : ℕ → List (Ticketed B L T) → List (Ticketed B L T)
  upto d [] = []
  upto d (t ∷ ts) = if nat_lt t.0 d then t ∷ upto d ts else []

  -- the tickets rise, from above this one on
  abbrev pub Rises : ℕ → List (Ticketed B L T) → Type 0
  Rises t [] = Unit {0}
  Rises t (u ∷ us) = (t < u.0) × Rises u.0 us

  -- they rise from that of the opening on; a node that was not opened has none
  abbrev pub RisesFrom : Option (ℕ × Node B) → List (Ticketed B L T) → Type 0
  RisesFrom None ts = ts ≡ []
  RisesFrom (Some b) ts = Rises b.0 ts

  -- the node as it was opened, or its current state if it was not
  abbrev pub start : View B L T → Node B
  start v = start_from v.state v.opened

  -- the view's node was opened
  abbrev pub IsOpened : View B L T → Type 0
  IsOpened v = (b : ℕ × Node B) × (v.opened ≡ Some b)

  -- the view drew this ticket, at its opening or for an event
  abbrev pub Drew : View B L T → ℕ → Type 0
  Drew v t = OpenedAt v.opened t ⊎ ((k : ℕ) × (e : NodeEvent B L T) × IsAt v.turns k (t, e))

  -- how many tickets it drew
  abbrev pub draws : View B L T → ℕ
  draws v = opening_count v.opened + length v.turns

  -- and how many all views did
  abbrev pub total : List (View B L T) → ℕ
  total [] = 0
  total (v ∷ views) = draws v + total views
