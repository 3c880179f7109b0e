-- Bodies that contain a client's name; the first versions had none.
use Rattle.std.specs.Prelude.{Bool, true, false, Some, None}
use Rattle.buffer_commands.specs.declared.command.Action.{Action}
use Rattle.buffer_commands.specs.declared.command.Action.TheVariants as action
use Rattle.buffer_commands.specs.declared.command.Command.{Command}
use Rattle.buffer_commands.specs.declared.command.Command.TheVariants as command
use Rattle.session_fence.specs.declared.command.FenceCommand.{FenceCommand}
use Rattle.session_fence.specs.declared.command.FenceCommand.TheVariants as fence
use Rattle.upstream_claim.specs.declared.command.ClaimsCommand.{ClaimsCommand}
use Rattle.upstream_claim.specs.declared.command.ClaimsCommand.TheVariants as claims
use Rattle.request_once.specs.declared.body.Body.{Body}
use Rattle.request_once.specs.declared.body.Body.TheVariants as body
use Rattle.world_events.specs.declared.event.Input.{Input}
use Rattle.world_events.specs.declared.event.Input.TheVariants as input
use Rattle.world_events.specs.declared.event.Event.{Event}
use Rattle.world_events.specs.declared.event.Event.TheVariants.{Does, Restart, StopIn}

-- an action with which a client attaches with a name
abbrev pub action_brings_name : Action → Bool
action_brings_name (action.Attach (Some id)) = true
action_brings_name (action.Attach None) = false
action_brings_name action.Leave = false
action_brings_name (action.Say verb target text) = false
action_brings_name (action.Join channel) = false
action_brings_name (action.Part channel) = false
action_brings_name (action.Detach channel) = false
action_brings_name (action.Reattach channel) = false
action_brings_name (action.Play target) = false
action_brings_name (action.Clear target) = false
action_brings_name action.ClearChannels = false
action_brings_name action.ClearQueries = false
action_brings_name action.ClearAll = false
action_brings_name (action.SetBuffer target size) = false
action_brings_name (action.Pass line) = false

-- a client's command contains a name if its action does
abbrev pub command_brings_name : Command → Bool
command_brings_name (command.Client origin at a) = action_brings_name a
command_brings_name (command.Upstream at line) = false
command_brings_name (command.NodeGone node floor) = false
command_brings_name command.Up = false
command_brings_name command.Down = false

-- Over the commands of the machine below
module _ {C : Type 0} (inner : C → Bool) where
  -- a command of the machine below contains a name
  abbrev pub fence_brings_name : {L : Type 0} → FenceCommand C L → Bool
  fence_brings_name (fence.Inner c) = inner c
  fence_brings_name (fence.Opened id) = false
  fence_brings_name (fence.Shut id) = false
  fence_brings_name (fence.Heard id number at line) = false

  -- a command of the machine below contains a name
  abbrev pub claims_brings_name : ClaimsCommand C → Bool
  claims_brings_name (claims.Inner c) = inner c
  claims_brings_name (claims.Claim id number) = false

  -- a command of the machine below or a request contains a name
  abbrev pub body_brings_name : {A : Type 0} → (A → Bool) → Body C A → Bool
  body_brings_name asked (body.Inner c) = inner c
  body_brings_name asked (body.Asked origin number at a) = asked a
  body_brings_name asked body.Blank = false
  body_brings_name asked (body.Mark mark) = false

-- Over bodies
module _ {B : Type 0} (brings : B → Bool) where
  -- the body of a request contains a name
  abbrev pub input_brings_name : {L T : Type 0} → Input B L T → Bool
  input_brings_name (input.Timeout n) = false
  input_brings_name (input.Beat n) = false
  input_brings_name (input.Deliver n k) = false
  input_brings_name (input.Ask n b) = brings b
  input_brings_name (input.Opened n) = false
  input_brings_name (input.Closed n) = false
  input_brings_name (input.Heard n at l) = false
  input_brings_name (input.Claim n) = false
  input_brings_name (input.Apply n) = false
  input_brings_name (input.Look n place target) = false

  -- also if the node stops meanwhile
  abbrev pub event_brings_name : {L T : Type 0} → Event B L T → Bool
  event_brings_name (Does x) = input_brings_name x
  event_brings_name (Restart n) = false
  event_brings_name (StopIn x after) = input_brings_name x
