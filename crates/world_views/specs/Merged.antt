-- The events of all views as one list, and where they lead.
use Rattle.std.specs.Prelude.{◌≡◌, ◌==◌, ℕ, suc, if◌then◌else◌, List, [], ◌∷◌, ◌++◌, length, map, set, Option, Some, None}
use Rattle.raft_log.specs.Lists.{item}
use Rattle.raft_log.specs.Node.{Node}
use Rattle.raft_node.specs.Machine.{Machine}
use Rattle.world_views.specs.declared.envelope.Envelope.{Envelope}
use Rattle.world_views.specs.Views.{IsAt, Ticketed, View, sender, brings, Rises, start_from}
use Rattle.world_views.specs.Own.{ViewOf, own_state}

-- a turn of the node at a place: that, its ticket and its event
abbrev pub Placed : (B L T : Type 0) → Type 0
Placed B L T = ℕ × Ticketed B L T

module _ {B : Type 0} where
  -- a node that was not opened ends as it began
  abbrev pub end_from : Node B → Node B → Option (ℕ × Node B) → Node B
  end_from s t None = s
  end_from s t (Some b) = t

module _ {B L T : Type 0} where
  -- without the place
  abbrev pub turn_of : Placed B L T → Ticketed B L T
  turn_of e = e.1

  -- the turns of the node at a place
  abbrev pub turns_of : ℕ → List (Placed B L T) → List (Ticketed B L T)
  turns_of i [] = []
  turns_of i (e ∷ es) = if e.0 == i then e.1 ∷ turns_of i es else turns_of i es

  -- the tickets rise
  abbrev pub AreInOrder : List (Ticketed B L T) → Type 0
  AreInOrder [] = Unit {0}
  AreInOrder (t ∷ ts) = Rises t.0 ts

  -- A node as it was opened, and its current state. One that was not opened did nothing, whatever it is: `idle` says
  -- what.
  abbrev pub start_in : (ℕ → Node B) → View B L T → Node B
  start_in idle v = start_from (idle v.node) v.opened

  -- the node's current state, or what `idle` says if it was not opened
  abbrev pub end_in : (ℕ → Node B) → View B L T → Node B
  end_in idle v = end_from (idle v.node) v.state v.opened

module _ (M : Machine) where
  -- a turn of the node at a place, which hosts this machine
  abbrev pub PlacedOf : Type 0
  PlacedOf = Placed M.Body M.Line M.Target

  -- what an event brings was sent by the node that it names, at its number, to the node where it happens
  abbrev pub MayBring : List (Node M.Body) → ℕ → Option (Envelope M.Body) → Type 0
  MayBring w i None = Unit {0}
  MayBring w i (Some e) =
      (e.message.to ≡ suc i) × (e.message.from ≡ suc (sender e))
      × ((s : Node M.Body) × IsAt w (sender e) s × (item s.sent e.number ≡ Some e.message))

  -- an event changes its own node alone
  abbrev pub IsStep : List (Node M.Body) → PlacedOf → List (Node M.Body) → Type 0
  IsStep w e w' =
      MayBring w e.0 (brings e.1.1)
      × ((s : Node M.Body) × IsAt w e.0 s × (w' ≡ set w e.0 (own_state M (length w) (suc e.0) s e.1.1)))

-- these events lead from the one world to the other
pub data Leads (M : Machine) : List (Node M.Body) → List (PlacedOf M) → List (Node M.Body) → Type 0 where
  still : {w : List (Node M.Body)} → Leads M w [] w
  on : {w : List (Node M.Body)} {es : List (PlacedOf M)} {v u : List (Node M.Body)} (e : PlacedOf M)
      → Leads M w es v → IsStep M v e u → Leads M w (es ++ e ∷ []) u

module _ (M : Machine) where
  -- These are the events of all records by rising ticket, each once, and they lead from the nodes as they were opened to the nodes' states.
  pub record IsMerged (idle : ℕ → Node M.Body) (views : List (ViewOf M)) (es : List (PlacedOf M)) : Type 0 where
    pub leads : Leads M (map (start_in idle) views) es (map (end_in idle) views)
    pub in_order : AreInOrder (map turn_of es)
    pub records : (i : ℕ) (v : ViewOf M) → IsAt views i v → turns_of i es ≡ v.turns
