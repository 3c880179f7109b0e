-- An input of one node, as its view holds it.
use Rattle.raft_node.specs.declared.input.Input.{Input}
use Rattle.world_views.specs.declared.envelope.Envelope.{Envelope}

-- a delivery holds the message with its number
abbrev pub NodeInput : Type 0 → Type 0 → Type 0
NodeInput B L = Input (Envelope B) B L
