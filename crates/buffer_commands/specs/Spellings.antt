-- Actions and commands as bytes: a kind byte, followed by the fields of that kind.
use Rattle.std.specs.Prelude.{ℕ, ◌≤◌, ◌==◌, if◌then◌else◌, List, [], ◌∷◌, ◌++◌, Some, None, IsTrue}
use Rattle.std.specs.Int.{w16, to_be_bytes}
use Rattle.irc_line.specs.Names.{is_name, is_channel, is_text}
use Rattle.irc_line.specs.Lines.{Parts}
use Rattle.wire_bytes.specs.Fields.{Reading, done, through, both, only, choice, byte_within, number_to}
use Rattle.wire_bytes.specs.Wants.{Wants, once_whole, wants_behind, wants_both, wants_choice}
use Rattle.wire_bytes.specs.Contents.{sized, name, text, spelled_line, FitsLine, line}
use Rattle.wire_bytes.specs.Values.{spelled_origin, spelled_number, FitsOrigin, FitsNumber, FitsMoment, origin, number, moment}
use Rattle.wire_bytes.specs.declared.origin.Origin.{Origin}
use Rattle.buffer_commands.specs.declared.command.Verb.{Verb}
use Rattle.buffer_commands.specs.declared.command.Verb.TheVariants.{Privmsg, Notice}
use Rattle.buffer_commands.specs.declared.command.Action.{Action}
use Rattle.buffer_commands.specs.declared.command.Action.TheVariants.{Attach, Leave, Say, Join, Part, Detach, Reattach, Play, Clear, ClearChannels, ClearQueries, ClearAll, SetBuffer, Pass}
use Rattle.buffer_commands.specs.declared.command.Command.{Command}
use Rattle.buffer_commands.specs.declared.command.Command.TheVariants.{Client, Upstream, NodeGone, Up, Down}

-- A verb: one byte, 0 or 1

-- the byte of a verb: PRIVMSG is 0, NOTICE is 1
abbrev pub verb_byte : Verb → ℕ
verb_byte Privmsg = 0
verb_byte Notice = 1

-- the verb of a byte: 0 is PRIVMSG, any other NOTICE
abbrev pub verb_of : ℕ → Verb
verb_of byte = if byte == 0 then Privmsg else Notice

-- a verb as bytes: its one byte
abbrev pub spelled_verb : Verb → List ℕ
spelled_verb verb = verb_byte verb ∷ []

-- the verb at the front of an input; a byte past 1 is refused
unfoldable pub verb : Reading Verb
verb = through verb_of (byte_within 0 1)

-- A channel's name: a name; one that is no channel's name is refused as that field

-- what may be a channel: a name that begins with #, &, + or !
abbrev pub FitsChannel : List ℕ → Type 0
FitsChannel c = IsTrue (is_channel c)

-- the channel's name at the front of an input; any other name is refused at its first byte, that of its length
unfoldable pub channel_name : Reading (List ℕ)
channel_name = only is_channel name

-- A size of a buffer: two bytes

-- a size that fits into two bytes; whether it is past 500 is decided by the buffers
abbrev pub FitsSize : ℕ → Type 0
FitsSize n = n ≤ 65535

-- a size as bytes, the high byte first
unfoldable pub spelled_size : ℕ → List ℕ
spelled_size n = to_be_bytes w16 n

-- the size at the front of an input: any two bytes are a size
unfoldable pub buffer_size : Reading ℕ
buffer_size = number_to w16 65535

-- Actions

-- the kind byte of an action, 1 to 15; 15 is an Attach with a name
abbrev pub action_kind : Action → ℕ
action_kind (Attach None) = 1
action_kind Leave = 2
action_kind (Say v n t) = 3
action_kind (Join c) = 4
action_kind (Part c) = 5
action_kind (Detach c) = 6
action_kind (Reattach c) = 7
action_kind (Play n) = 8
action_kind (Clear n) = 9
action_kind ClearChannels = 10
action_kind ClearQueries = 11
action_kind ClearAll = 12
action_kind (SetBuffer n k) = 13
action_kind (Pass p) = 14
action_kind (Attach (Some id)) = 15

-- verb, name and text of a Say
abbrev pub said : Verb → List ℕ → List ℕ → List ℕ
said v n t = (spelled_verb v ++ sized n) ++ sized t

-- verb, name, text; or name; or name, size; or line
abbrev pub action_body : Action → List ℕ
action_body (Attach None) = []
action_body (Attach (Some id)) = sized id
action_body Leave = []
action_body (Say v n t) = said v n t
action_body (Join c) = sized c
action_body (Part c) = sized c
action_body (Detach c) = sized c
action_body (Reattach c) = sized c
action_body (Play n) = sized n
action_body (Clear n) = sized n
action_body ClearChannels = []
action_body ClearQueries = []
action_body ClearAll = []
action_body (SetBuffer n k) = sized n ++ spelled_size k
action_body (Pass p) = spelled_line p

-- an action as bytes: its kind byte, followed by the fields of that kind
unfoldable pub spelled_action : Action → List ℕ
spelled_action a = action_kind a ∷ action_body a

-- the names, the text, the size or the line of an action are within their limits
abbrev pub FitsAction : Action → Type 0
FitsAction (Attach None) = Unit {0}
FitsAction (Attach (Some id)) = IsTrue (is_name id)
FitsAction Leave = Unit {0}
FitsAction (Say v n t) = (Unit {0} × IsTrue (is_name n)) × IsTrue (is_text t)
FitsAction (Join c) = FitsChannel c
FitsAction (Part c) = FitsChannel c
FitsAction (Detach c) = FitsChannel c
FitsAction (Reattach c) = FitsChannel c
FitsAction (Play n) = IsTrue (is_name n)
FitsAction (Clear n) = IsTrue (is_name n)
FitsAction ClearChannels = Unit {0}
FitsAction ClearQueries = Unit {0}
FitsAction ClearAll = Unit {0}
FitsAction (SetBuffer n k) = IsTrue (is_name n) × FitsSize k
FitsAction (Pass p) = FitsLine p

-- a Say, from its parts as they are read: verb, name, text
abbrev pub say_of : (Verb × List ℕ) × List ℕ → Action
say_of p = Say p.0.0 p.0.1 p.1

-- a Say, after the kind byte
abbrev pub say_taken : Reading Action
say_taken = through say_of (both (both verb name) text)

-- a SetBuffer, from its parts as they are read: name, size
abbrev pub set_of : List ℕ × ℕ → Action
set_of p = SetBuffer p.0 p.1

-- a SetBuffer, after the kind byte
abbrev pub set_buffer_taken : Reading Action
set_buffer_taken = through set_of (both name buffer_size)

-- a Pass, after the kind byte: the line that goes upstream as it is
abbrev pub pass_taken : Reading Action
pass_taken = through Pass line

-- an Attach of a client with a name
abbrev pub attach_as : List ℕ → Action
attach_as id = Attach (Some id)

-- what may follow each kind byte
abbrev pub action_cases : List (ℕ × Reading Action)
action_cases =
    (1, done (Attach None))
    ∷ (2, done Leave)
    ∷ (3, say_taken)
    ∷ (4, through Join channel_name)
    ∷ (5, through Part channel_name)
    ∷ (6, through Detach channel_name)
    ∷ (7, through Reattach channel_name)
    ∷ (8, through Play name)
    ∷ (9, through Clear name)
    ∷ (10, done ClearChannels)
    ∷ (11, done ClearQueries)
    ∷ (12, done ClearAll)
    ∷ (13, set_buffer_taken)
    ∷ (14, pass_taken)
    ∷ (15, through attach_as name)
    ∷ []

-- a Say needs memory for its name and its text, once each is there whole
abbrev pub say_wants : Wants
say_wants = wants_both (wants_behind verb (once_whole name)) (both verb name) (once_whole text)

-- a SetBuffer needs memory for its name, once all of it is there
abbrev pub set_buffer_wants : Wants
set_buffer_wants = once_whole name

-- which inputs may need memory for an action: those of a kind that has a name, a text or a line, once all of it is
-- there
abbrev pub action_wants : Wants
action_wants =
    wants_choice (
    (3, say_wants)
    ∷ (4, once_whole channel_name)
    ∷ (5, once_whole channel_name)
    ∷ (6, once_whole channel_name)
    ∷ (7, once_whole channel_name)
    ∷ (8, once_whole name)
    ∷ (9, once_whole name)
    ∷ (13, set_buffer_wants)
    ∷ (14, once_whole line)
    ∷ (15, once_whole name)
    ∷ [])

-- the action at the front of an input
unfoldable pub action : Reading Action
action = choice action_cases

-- The number of a node, which need not be one of the nodes: one byte

-- a node's number that one byte holds
abbrev pub FitsNode : ℕ → Type 0
FitsNode n = (0 ≤ n) × (n ≤ 255)

-- a node's number as bytes: one byte
abbrev pub spelled_node : ℕ → List ℕ
spelled_node n = n ∷ []

-- the node's number at the front of an input: any byte is one
abbrev pub node : Reading ℕ
node = byte_within 0 255

-- Commands

-- the kind byte of a command, 1 to 5
abbrev pub command_kind : Command → ℕ
command_kind (Client o at a) = 1
command_kind (Upstream at p) = 2
command_kind (NodeGone n floor) = 3
command_kind Up = 4
command_kind Down = 5

-- origin, moment, action; or moment, line; or node, floor
abbrev pub command_body : Command → List ℕ
command_body (Client o at a) = (spelled_origin o ++ spelled_number at) ++ spelled_action a
command_body (Upstream at p) = spelled_number at ++ spelled_line p
command_body (NodeGone n floor) = spelled_node n ++ spelled_number floor
command_body Up = []
command_body Down = []

-- a command as bytes: its kind byte, followed by the fields of that kind
unfoldable pub spelled_command : Command → List ℕ
spelled_command c = command_kind c ∷ command_body c

-- the origin, the moment, the action, the line, the node and the floor of a command are within their limits
abbrev pub FitsCommand : Command → Type 0
FitsCommand (Client o at a) = (FitsOrigin o × FitsMoment at) × FitsAction a
FitsCommand (Upstream at p) = FitsMoment at × FitsLine p
FitsCommand (NodeGone n floor) = FitsNode n × FitsNumber floor
FitsCommand Up = Unit {0}
FitsCommand Down = Unit {0}

-- a Client command, from its parts as they are read: origin, moment, action
abbrev pub client_of : (Origin × ℕ) × Action → Command
client_of p = Client p.0.0 p.0.1 p.1

-- an Upstream command, from its parts as they are read: moment, line
abbrev pub upstream_of : ℕ × Parts → Command
upstream_of p = Upstream p.0 p.1

-- a Client command, after the kind byte
abbrev pub client_taken : Reading Command
client_taken = through client_of (both (both origin moment) action)

-- an Upstream command, after the kind byte
abbrev pub upstream_taken : Reading Command
upstream_taken = through upstream_of (both moment line)

-- a NodeGone, from its parts as they are read: node, floor
abbrev pub gone_of : ℕ × ℕ → Command
gone_of p = NodeGone p.0 p.1

-- a NodeGone, after the kind byte
abbrev pub gone_taken : Reading Command
gone_taken = through gone_of (both node number)

-- what may follow each kind byte
abbrev pub command_cases : List (ℕ × Reading Command)
command_cases = (1, client_taken) ∷ (2, upstream_taken) ∷ (3, gone_taken) ∷ (4, done Up) ∷ (5, done Down) ∷ []

-- a Client command needs memory for its action, after the origin and the moment
abbrev pub client_wants : Wants
client_wants = wants_behind (both origin moment) action_wants

-- an Upstream command needs memory for its line, after the moment
abbrev pub upstream_wants : Wants
upstream_wants = wants_behind moment (once_whole line)

-- which inputs may need memory for a command: those of a Client or an Upstream command; other commands are held in
-- place
abbrev pub command_wants : Wants
command_wants = wants_choice ((1, client_wants) ∷ (2, upstream_wants) ∷ [])

-- the command at the front of an input
unfoldable pub command : Reading Command
command = choice command_cases
