-- What is delivered, as it is looked up among what was sent.
use Rattle.std.specs.Prelude.{ℕ, List, [], ◌∷◌, Option, None, Some, option_map}
use Rattle.std.specs.Global.{Vec}
use Rattle.raft_log.specs.declared.message.Message.{Message}
use Rattle.raft_log.specs.Lists.{item}
use Rattle.raft_log.specs.Node.{Node}
use Rattle.agreement.specs.World.{sent_of, to_of}
use Rattle.world_events.specs.declared.event.Event.{Event}
use Rattle.world_events.specs.declared.event.Event.TheVariants.{Does, Restart, StopIn}
use Rattle.world_events.specs.declared.event.Input.{Input}
use Rattle.world_events.specs.declared.event.Input.TheVariants.{Timeout, Beat, Deliver, Ask, Opened, Closed, Heard, Claim, Apply, Look}
use Rattle.world_app.specs.declared.diagram.Arrow.{Arrow}
use Rattle.world_app.specs.declared.delivered.Delivery.{Delivery}
use Rattle.world_app.specs.Kinds.{delivery_of, kind_of}
use Rattle.world_app.specs.SendingRows.{row_in}

-- the receiver of a message, and the message's kind
abbrev pub delivery_by : {B : Type 0} → Message B → Delivery
delivery_by m = record { addressee = m.to; kind = kind_of m.kind }

-- the arrow of this message, delivered in this row, if it has a row in which it was sent
abbrev pub arrow_from : ℕ → ℕ → ℕ → Option Delivery → Option ℕ → Option Arrow
arrow_from row sender number None sent = None
arrow_from row sender number (Some d) None = None
arrow_from row sender number (Some d) (Some sent) =
    Some (record { sender = sender; number = number; addressee = d.addressee; kind = d.kind; sent = sent; delivered = row })

module _ {B : Type 0} where
  -- the arrow of the message of this number among those that a node sent
  abbrev pub arrow_to : List (Node B) → List (Vec ℕ) → ℕ → Option (ℕ × ℕ) → Option Arrow
  arrow_to w rows row None = None
  arrow_to w rows row (Some d) = arrow_from row d.0 d.1 (option_map delivery_by (sent_of (item w d.0) d.1)) (row_in rows d.0 d.1)

  module _ {L T : Type 0} where
    -- the arrow of what an event delivers
    abbrev pub arrow_in : List (Node B) → List (Vec ℕ) → ℕ → Event B L T → Option Arrow
    arrow_in w rows row e = arrow_to w rows row (delivery_of e)

    -- the node to which an input happens; 0 if there is no such message
    abbrev pub node_in : List (Node B) → Input B L T → ℕ
    node_in w (Timeout i) = i
    node_in w (Beat i) = i
    node_in w (Deliver j k) = to_of (sent_of (item w j) k)
    node_in w (Ask i body) = i
    node_in w (Opened i) = i
    node_in w (Closed i) = i
    node_in w (Heard i at line) = i
    node_in w (Claim i) = i
    node_in w (Apply i) = i
    node_in w (Look i from_place target) = i

    -- the node to which an event happens
    abbrev pub node_of : List (Node B) → Event B L T → ℕ
    node_of w (Does x) = node_in w x
    node_of w (Restart i) = i
    node_of w (StopIn x after) = node_in w x

-- an arrow as a list, which is empty if there is none
abbrev pub arrows_of : Option Arrow → List Arrow
arrows_of None = []
arrows_of (Some a) = a ∷ []
