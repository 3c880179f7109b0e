-- Events as the code has them, what each is by the definitions, and what it does to which node.
use Rattle.std.specs.Prelude.{ℕ, List, map, Option, None, Some}
use Rattle.raft_log.specs.declared.message.Message.{Message}
use Rattle.raft_log.specs.Lists.{item}
use Rattle.raft_log.specs.Node.{Node}
use Rattle.raft_node.specs.declared.input.Input.TheVariants as input
use Rattle.raft_node.specs.Inputs.{act_of}
use Rattle.raft_node.specs.Machine.{Machine}
use Rattle.raft_node.specs.Steps as steps
use Rattle.agreement.specs.World.{sent_of}
use Rattle.world_events.specs.declared.event.Event.{Event}
use Rattle.world_events.specs.declared.event.Event.TheVariants.{Does, Restart, StopIn}
use Rattle.world_events.specs.declared.event.Input.{Input}
use Rattle.world_events.specs.declared.event.Input.TheVariants.{Timeout, Beat, Deliver, Ask, Opened, Closed, Heard, Claim, Apply, Look}
use Rattle.world_run.specs.declared.told.Act.{Act}
use Rattle.world_run.specs.declared.told.Act.TheVariants.{Steps, Looks}
use Rattle.world_run.specs.declared.told.Own.{Own}
use Rattle.world_run.specs.declared.told.Own.TheVariants.{Acts, Restarts, Stops}
use Rattle.world_run.specs.declared.told.Doing.{Doing}
use Rattle.world_run.specs.declared.outcome.Outcome.{Outcome}
use Rattle.world_run.specs.declared.outcome.Outcome.TheVariants.{Quiet, Left, Looked, Refused, Missing}
use Rattle.world_run.specs.World as world

module _ {B L T : Type 0} where
  -- this node does this
  abbrev pub does : ℕ → Act B L T → Doing B L T
  does node act = record { node = node; act = act }

  -- the message comes to its receiver
  abbrev pub delivered : Option (Message B) → Option (Doing B L T)
  delivered None = None
  delivered (Some m) = Some (does m.to (Steps (input.Deliver m)))

  -- an input is what a node does, if there is such a message
  abbrev pub doing_of : List (Node B) → Input B L T → Option (Doing B L T)
  doing_of w (Timeout i) = Some (does i (Steps input.Timeout))
  doing_of w (Beat i) = Some (does i (Steps input.Beat))
  doing_of w (Deliver j k) = delivered (sent_of (item w j) k)
  doing_of w (Ask i body) = Some (does i (Steps (input.Ask body)))
  doing_of w (Opened i) = Some (does i (Steps input.Opened))
  doing_of w (Closed i) = Some (does i (Steps input.Closed))
  doing_of w (Heard i at line) = Some (does i (Steps (input.Heard at line)))
  doing_of w (Claim i) = Some (does i (Steps input.Claim))
  doing_of w (Apply i) = Some (does i (Steps input.Apply))
  doing_of w (Look i from_place target) = Some (does i (Looks from_place target))

module _ (M : Machine) where
  -- the input that it is
  abbrev pub input_of : Input M.Body M.Line M.Target → world.Input M
  input_of (Timeout i) = world.Timeout i
  input_of (Beat i) = world.Beat i
  input_of (Deliver j k) = world.Deliver j k
  input_of (Ask i body) = world.Ask i body
  input_of (Opened i) = world.Opened i
  input_of (Closed i) = world.Closed i
  input_of (Heard i at line) = world.Heard i at line
  input_of (Claim i) = world.Claim i
  input_of (Apply i) = world.Apply i
  input_of (Look i from_place target) = world.Look i from_place target

  -- the event that it is
  abbrev pub event_of : Event M.Body M.Line M.Target → world.Event M
  event_of (Does x) = world.Does (input_of x)
  event_of (Restart i) = world.Restart i
  event_of (StopIn x after) = world.StopIn (input_of x) after

  -- the events that they are
  abbrev pub events_of : List (Event M.Body M.Line M.Target) → List (world.Event M)
  events_of es = map event_of es

  -- the act that it is
  abbrev pub told_act : Act M.Body M.Line M.Target → steps.Act M
  told_act (Steps input) = act_of M input
  told_act (Looks from_place target) = steps.Looks from_place target

  -- what it does to a node
  abbrev pub told_own : Own M.Body M.Line M.Target → steps.Own M
  told_own (Acts act) = steps.Acts (told_act act)
  told_own Restarts = steps.Restarts
  told_own (Stops act after) = steps.Stops (told_act act) after

  -- what comes out, as the definitions have it
  abbrev pub out_of : Outcome M.Effect M.Played → steps.Out M
  out_of Quiet = steps.Quiet
  out_of (Left place effects) = steps.Left place effects.items
  out_of (Looked place lines) = steps.Looked place lines.items
  out_of (Refused refusal) = steps.Refused refusal
  out_of Missing = steps.Missing

  -- what comes out of each event
  abbrev pub outs_of : List (Outcome M.Effect M.Played) → List (steps.Out M)
  outs_of os = map out_of os
