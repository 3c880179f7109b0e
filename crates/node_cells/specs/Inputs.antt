-- The inputs of a cell's node, as the node takes them.
use Rattle.std.specs.Prelude.{List, map, Result}
use Rattle.std.specs.List.{AllByRecursion}
use Rattle.node_steps.specs.declared.refusal.Refusal.{Refusal}
use Rattle.raft_log.specs.declared.message.Message.{Message}
use Rattle.raft_node.specs.declared.input.Input.{Input}
use Rattle.raft_node.specs.declared.input.Input.TheVariants as input
use Rattle.raft_node.specs.Together.{OnlyAppends}
use Rattle.world_views.specs.Inputs.{NodeInput}
use Rattle.raft_node.specs.declared.input.Input.TheVariants.{Timeout, Beat, Deliver, Ask, Opened, Closed, Heard, Claim, Apply}

-- what the node answers to an input by which it only appends
abbrev pub Answer : Type 0
Answer = Result (Unit {0}) Refusal

module _ {B L : Type 0} where
  -- the input as the node takes it
  abbrev pub input_of : NodeInput B L → Input (Message B) B L
  input_of Timeout = input.Timeout
  input_of Beat = input.Beat
  input_of (Deliver e) = input.Deliver e.message
  input_of (Ask body) = input.Ask body
  input_of Opened = input.Opened
  input_of Closed = input.Closed
  input_of (Heard at line) = input.Heard at line
  input_of Claim = input.Claim
  input_of Apply = input.Apply

  -- a leader appends at most one entry by each of these, and sends nothing
  abbrev pub OnlyAppend : List (NodeInput B L) → Type 0
  OnlyAppend inputs = AllByRecursion OnlyAppends (map input_of inputs)
