-- The diagram of a run: a row for each event, and an arrow for each message that was delivered.
use Rattle.std.specs.Prelude.{◌≡◌, ℕ, suc, nat_lt, if◌then◌else◌, List, [], ◌∷◌, ◌++◌, length, Option, None, Some, option_map}
use Rattle.raft_log.specs.declared.message.Message.{Message}
use Rattle.raft_log.specs.Lists.{item}
use Rattle.raft_log.specs.Node.{Node}
use Rattle.raft_node.specs.Machine.{Machine}
use Rattle.agreement.specs.World.{sent_of, start}
use Rattle.world_events.specs.declared.event.Event.{Event}
use Rattle.world_run.specs.Told.{event_of}
use Rattle.world_run.specs.World.{happens, stepper}
use Rattle.world_app.specs.declared.diagram.Arrow.{Arrow}
use Rattle.world_app.specs.declared.diagram.Change.{Change}
use Rattle.world_app.specs.declared.diagram.Diagram.{Diagram}
use Rattle.world_app.specs.declared.diagram.NodeView.{NodeView}
use Rattle.world_app.specs.declared.diagram.Row.{Row}
use Rattle.world_app.specs.Kinds.{delivery_of, happening_of, kind_of}

-- how an event changed a node that was this before it and is that after it
abbrev pub change_of : ℕ → Option NodeView → Option NodeView → Option Change
change_of node None after = None
change_of node (Some before) None = None
change_of node (Some before) (Some after) = Some (record { node = node; before = before; after = after })

module _ {B : Type 0} where
  -- what is drawn of a node: its role, its term, up to where it commits, and which of its runs it is in
  abbrev pub view_of : Node B → NodeView
  view_of s = record { role = s.role; term = s.term; commit = s.commit; boot = s.boot }

  -- the same for the node of this number
  abbrev pub view_at : List (Node B) → ℕ → Option NodeView
  view_at w node = option_map view_of (item w node)

  -- the row of the event of this number, which happens to this node, between two worlds
  abbrev pub row_between : {L T : Type 0} → ℕ → Event B L T → ℕ → List (Node B) → List (Node B) → Row
  row_between number e node old new =
      record { number = number; happening = happening_of e; change = change_of node (view_at old node) (view_at new node) }

  -- how many messages a node sent
  abbrev pub count_of : Option (Node B) → ℕ
  count_of None = 0
  count_of (Some s) = length s.sent

  -- how many messages the node of this number sent
  abbrev pub sent_count : List (Node B) → ℕ → ℕ
  sent_count w node = count_of (item w node)

  -- Over the rows in which the messages of each node were sent:
  module _ (sent_in : ℕ → ℕ → ℕ) where
    -- the arrow of a message that is delivered in this row, where it was sent
    abbrev pub arrow_for : ℕ → ℕ → ℕ → Option (Message B) → List Arrow
    arrow_for row sender number None = []
    arrow_for row sender number (Some m) =
        record { sender = sender; number = number; addressee = m.to; kind = kind_of m.kind; sent = sent_in sender number; delivered = row } ∷ []

    -- the arrow of what an event delivers to a world, if it delivers anything
    abbrev pub arrow_by : ℕ → List (Node B) → Option (ℕ × ℕ) → List Arrow
    arrow_by row w None = []
    arrow_by row w (Some d) = arrow_for row d.0 d.1 (sent_of (item w d.0) d.1)

module _ (M : Machine) where
  -- the rows of these events, the first of which has this number, from this world on
  abbrev pub rows_from : ℕ → List (Event M.Body M.Line M.Target) → List (Node M.Body) → List Row
  rows_from number [] w = []
  rows_from number (e ∷ es) w =
      row_between number e (stepper M w (event_of M e)) w (happens M w (event_of M e)) ∷ rows_from (suc number) es (happens M w (event_of M e))

  -- The first row, from this one on, after which a node has sent this many messages; these events follow it, from this
  -- world on.
  abbrev pub first_with : ℕ → ℕ → ℕ → List (Event M.Body M.Line M.Target) → List (Node M.Body) → ℕ
  first_with sender number row [] w = row
  first_with sender number row (e ∷ es) w =
      if nat_lt (sent_count w sender) number then first_with sender number (suc row) es (happens M w (event_of M e)) else row

  -- the row in which a message was sent, of this many nodes over new stores to which these events happen; row 0 is
  -- before the first event
  abbrev pub sent_in : ℕ → List (Event M.Body M.Line M.Target) → ℕ → ℕ → ℕ
  sent_in size es sender number = first_with sender number 0 es (start size)

  -- the arrows of what these events deliver, the first of which has this number, from this world on
  abbrev pub arrows_from : (ℕ → ℕ → ℕ) → ℕ → List (Event M.Body M.Line M.Target) → List (Node M.Body) → List Arrow
  arrows_from sent_in number [] w = []
  arrows_from sent_in number (e ∷ es) w = arrow_by sent_in number w (delivery_of e) ++ arrows_from sent_in (suc number) es (happens M w (event_of M e))

  -- The diagram of these events, which happen to this many nodes over new stores.
  pub record IsDiagramOf (size : ℕ) (es : List (Event M.Body M.Line M.Target)) (d : Diagram) : Type 0 where
    pub size_is : d.size ≡ size
    pub last_is : d.last ≡ length es
    pub rows_are : d.rows.items ≡ rows_from 1 es (start size)
    pub arrows_are : d.arrows.items ≡ arrows_from (sent_in size es) 1 es (start size)
