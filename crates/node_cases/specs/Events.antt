-- What a node's input is in a list of events of its group.
use Rattle.std.specs.Prelude.{ℕ}
use Rattle.records.specs.Converting as converting
use Rattle.world_events.specs.declared.event.Event.{Event}
use Rattle.world_events.specs.declared.event.Event.TheVariants.{Does}
use Rattle.world_events.specs.declared.event.Input.{Input}
use Rattle.world_views.specs.Inputs.{NodeInput}

module _ {B L T : Type 0} where
  -- the input, of the node of this number
  abbrev pub input_at : ℕ → NodeInput B L → Input B L T
  input_at node x = converting.input_of node x

  -- the event that it is
  abbrev pub done_by : ℕ → NodeInput B L → Event B L T
  done_by node x = Does (input_at node x)
