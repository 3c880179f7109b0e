-- A node's record as one of its group.
use Rattle.std.specs.Prelude.{◌≡◌, ℕ, List, [], ◌∷◌, map}
use Rattle.raft_log.specs.Lists.{IsNode}
use Rattle.node_cells.specs.declared.record.NodeRecord.{NodeRecord}
use Rattle.node_cells.specs.declared.record.NodeTurn.{NodeTurn}
use Rattle.records.specs.declared.record.Record.{Record}
use Rattle.records.specs.declared.record.Turn.{Turn}
use Rattle.world_events.specs.declared.event.Event.{Event}
use Rattle.world_events.specs.declared.event.Event.TheVariants as group
use Rattle.world_events.specs.declared.event.Input.{Input}
use Rattle.world_events.specs.declared.event.Input.TheVariants as input
use Rattle.world_run.specs.declared.outcome.Outcome.{Outcome}
use Rattle.world_views.specs.declared.node_event.NodeEvent.{NodeEvent}
use Rattle.world_views.specs.declared.node_event.NodeEvent.TheVariants.{Does, Look, Restart, StopIn}
use Rattle.world_views.specs.Inputs.{NodeInput}
use Rattle.raft_node.specs.declared.input.Input.TheVariants.{Timeout, Beat, Deliver, Ask, Opened, Closed, Heard, Claim, Apply}

module _ {B L : Type 0} where
  -- a message came that no node sent
  abbrev pub IsInputOfAStranger : NodeInput B L → Type 0
  IsInputOfAStranger (Deliver e) = ¬ IsNode e.message.from
  IsInputOfAStranger Timeout = ⊥
  IsInputOfAStranger Beat = ⊥
  IsInputOfAStranger (Ask body) = ⊥
  IsInputOfAStranger Opened = ⊥
  IsInputOfAStranger Closed = ⊥
  IsInputOfAStranger (Heard at line) = ⊥
  IsInputOfAStranger Claim = ⊥
  IsInputOfAStranger Apply = ⊥

module _ {B L T : Type 0} where
  -- what happens to a node, which is named; a message is named by its sender and its number among those that it sent
  abbrev pub input_of : ℕ → NodeInput B L → Input B L T
  input_of node Timeout = input.Timeout node
  input_of node Beat = input.Beat node
  input_of node (Deliver e) = input.Deliver e.message.from e.number
  input_of node (Ask body) = input.Ask node body
  input_of node Opened = input.Opened node
  input_of node Closed = input.Closed node
  input_of node (Heard at line) = input.Heard node at line
  input_of node Claim = input.Claim node
  input_of node Apply = input.Apply node

  -- an event of a node as one of its group, in which the node is named
  abbrev pub event_of : ℕ → NodeEvent B L T → Event B L T
  event_of node (Does x) = group.Does (input_of node x)
  event_of node (Look place target) = group.Does (input.Look node place target)
  event_of node Restart = group.Restart node
  event_of node (StopIn x after) = group.StopIn (input_of node x) after

  -- in this event a message came that no node sent
  abbrev pub IsOfAStranger : NodeEvent B L T → Type 0
  IsOfAStranger (Does x) = IsInputOfAStranger x
  IsOfAStranger (Look place target) = ⊥
  IsOfAStranger Restart = ⊥
  IsOfAStranger (StopIn x after) = IsInputOfAStranger x

module _ {B L T E P : Type 0} where
  -- each message that came was sent by a node
  abbrev pub AreOfMembers : List (NodeTurn B L T E P) → Type 0
  AreOfMembers [] = Unit {0}
  AreOfMembers (t ∷ ts) = (¬ IsOfAStranger t.event) × AreOfMembers ts

  -- a node's record has a message that no node sent
  abbrev pub IsRefused : NodeRecord B L T E P → Type 0
  IsRefused r = ¬ AreOfMembers r.turns.items

  -- a turn, with its ticket and with what came out of it
  abbrev pub turn_of : ℕ → NodeTurn B L T E P → Turn (Event B L T) (Outcome E P)
  turn_of node t = record { ticket = t.ticket; event = event_of node t.event; outcome = t.outcome }

  -- the same turns in the same order, of the same node, which has the same state at the end
  pub record IsRecordOf (r : NodeRecord B L T E P) (s : Record (Event B L T) (Outcome E P)) : Type 0 where
    pub node : s.node ≡ r.node
    pub turns : s.turns.items ≡ map (turn_of r.node) r.turns.items
    pub state : s.state ≡ r.state
