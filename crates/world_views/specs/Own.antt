-- What an event with its message does to its own node.
use Rattle.std.specs.Prelude.{ℕ, suc, List, [], ◌∷◌}
use Rattle.raft_log.specs.Node.{Node}
use Rattle.raft_node.specs.Machine.{Machine}
use Rattle.raft_node.specs.Steps.{Out, Act, Expires, Beats, Hears, Asks, Opens, Closes, HearsLine, Claims, Applies, Looks, Own, Acts, Restarts, Stops, own}
use Rattle.world_views.specs.declared.node_event.NodeEvent.{NodeEvent}
use Rattle.world_views.specs.declared.node_event.NodeEvent.TheVariants.{Does, Look, Restart, StopIn}
use Rattle.world_views.specs.Inputs.{NodeInput}
use Rattle.raft_node.specs.declared.input.Input.TheVariants.{Timeout, Beat, Deliver, Ask, Opened, Closed, Heard, Claim, Apply}
use Rattle.world_views.specs.Views.{Ticketed, View, start, upto}

module _ (M : Machine) where
  -- an event of a node that hosts this machine
  abbrev pub EventOf : Type 0
  EventOf = NodeEvent M.Body M.Line M.Target

  -- the same with its ticket
  abbrev pub TurnOf : Type 0
  TurnOf = Ticketed M.Body M.Line M.Target

  -- the view of such a node
  abbrev pub ViewOf : Type 0
  ViewOf = View M.Body M.Line M.Target

  -- the act that an input is; a message is heard
  abbrev pub act_of : NodeInput M.Body M.Line → Act M
  act_of Timeout = Expires
  act_of Beat = Beats
  act_of (Deliver e) = Hears e.message
  act_of (Ask body) = Asks body
  act_of Opened = Opens
  act_of Closed = Closes
  act_of (Heard at line) = HearsLine at line
  act_of Claim = Claims
  act_of Apply = Applies

  -- what an event does to a node
  abbrev pub own_of : EventOf → Own M
  own_of (Does x) = Acts (act_of x)
  own_of (Look from_place target) = Acts (Looks from_place target)
  own_of Restart = Restarts
  own_of (StopIn x after) = Stops (act_of x) after

  -- the state after an event, of the node of this number in a group of this size
  unfoldable pub own_state : ℕ → ℕ → Node M.Body → EventOf → Node M.Body
  own_state size i s e = (own M size i (own_of e) s).node

  -- and what comes out
  unfoldable pub own_out : ℕ → ℕ → Node M.Body → EventOf → Out M
  own_out size i s e = (own M size i (own_of e) s).out

  -- the state after these turns
  abbrev pub run : ℕ → ℕ → Node M.Body → List TurnOf → Node M.Body
  run size i s [] = s
  run size i s (t ∷ ts) = run size i (own_state size i s t.1) ts

  -- the view's node after these turns, from this state on
  abbrev pub runs : ViewOf → Node M.Body → List TurnOf → Node M.Body
  runs v s ts = run v.size (suc v.node) s ts

  -- the view's node before this ticket
  abbrev pub state_at : ℕ → ViewOf → Node M.Body
  state_at d v = runs v (start v) (upto d v.turns)
