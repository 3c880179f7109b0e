-- A client that is registered: what is done for each command.
use Rattle.std.specs.Prelude.{ℕ, Bool, ◌||◌, if◌then◌else◌, nat_le, nat_lt, List, [], ◌∷◌, length, flat_map, codes}
use Rattle.irc_line.specs.Names.{is_channel, is_name, is_text, same_bytes, same_name}
use Rattle.irc_line.specs.Lines.{Parts, parameter, spelling}
use Rattle.irc_line.specs.declared.item.Item.{Item}
use Rattle.irc_line.specs.declared.item.Item.TheVariants.{Got, Refused}
use Rattle.buffer_commands.specs.declared.command.Action.{Action}
use Rattle.buffer_commands.specs.declared.command.Action.TheVariants as action
use Rattle.buffer_commands.specs.declared.command.Verb.{Verb}
use Rattle.buffer_commands.specs.declared.command.Verb.TheVariants as verb
use Rattle.client_gate.specs.declared.settings.Settings.{Settings}
use Rattle.client_gate.specs.declared.phase.Phase.{Phase}
use Rattle.client_gate.specs.declared.phase.Phase.TheVariants.{Arriving, Attached, Left}
use Rattle.client_gate.specs.declared.messages.ChannelVerb.{ChannelVerb}
use Rattle.client_gate.specs.declared.messages.ChannelVerb.TheVariants as channel
use Rattle.client_gate.specs.declared.client_command.ClientCommand.{ClientCommand}
use Rattle.client_gate.specs.declared.client_command.ClientCommand.TheVariants.{Pass, User, Nick, Cap, Ping, Pong, Quit, Join, Part, Privmsg, Notice, Topic, Kick, Other}
use Rattle.client_gate.specs.Commands.{command_of, lacks, without_prefix}
use Rattle.client_gate.specs.Registering.{arriving_deeds, cap_deeds}
use Rattle.client_gate.specs.Replies.{no_channel, not_enough, pong}
use Rattle.client_gate.specs.StatusWords.{status_deeds}
use Rattle.client_gate.specs.Turns.{Deed, Ask, Leave, Write, Close, Progress, all_done}
use Rattle.client_gate.specs.Words.{pieces}
use Rattle.irc_line.specs.Limits.{line_limit}

-- the line goes upstream without its prefix; every line that is fed is short enough for it
abbrev pub passed : Parts → List Deed
passed line =
    if nat_le (length (spelling (without_prefix line))) line_limit
    then Ask (action.Pass (without_prefix line)) ∷ []
    else []

-- a request about a channel
abbrev pub channel_action : ChannelVerb → List ℕ → Action
channel_action channel.Join name = action.Join name
channel_action channel.Part name = action.Part name

-- a request about a channel, or the answer that a word is none
abbrev pub about_word : List ℕ → ChannelVerb → List ℕ → List Deed
about_word nick v word = if is_channel word then Ask (channel_action v word) ∷ [] else Write (no_channel nick word) ∷ []

-- one for each word between commas
abbrev pub about_words : List ℕ → ChannelVerb → List ℕ → List Deed
about_words nick v list = flat_map (about_word nick v) (pieces 44 list)

-- a JOIN with a key, or one that leaves all channels
abbrev pub is_passed_join : Parts → Bool
is_passed_join line = nat_lt 1 (length line.parameters) || same_bytes (parameter 0 line) (codes "0")

-- a text to the bouncer itself; a NOTICE is ignored
abbrev pub to_status : List ℕ → Verb → List ℕ → List Deed
to_status nick verb.Privmsg text = status_deeds nick text
to_status nick verb.Notice text = []

-- a message to one target, skipped if that is no name
abbrev pub said_to : List ℕ → Verb → List ℕ → List ℕ → List Deed
said_to nick v text target =
    if same_name target (codes "*status")
    then to_status nick v text
    else
    if is_name target then Ask (action.Say v target text) ∷ [] else []

-- a message to each target between commas; a text that is too long for any line is dropped
abbrev pub said_to_all : List ℕ → Verb → Parts → List Deed
said_to_all nick v line =
    if is_text (parameter 1 line) then flat_map (said_to nick v (parameter 1 line)) (pieces 44 (parameter 0 line)) else []

-- a command with enough parameters
abbrev pub served : List ℕ → Parts → ClientCommand → List Deed
served nick line Pass = []
served nick line User = []
served nick line Nick = passed line
served nick line Cap = cap_deeds line
served nick line Ping = Write (pong (parameter 0 line)) ∷ []
served nick line Pong = []
served nick line Quit = Leave ∷ Close ∷ []
served nick line Join = if is_passed_join line then passed line else about_words nick channel.Join (parameter 0 line)
served nick line Part = about_words nick channel.Part (parameter 0 line)
served nick line Privmsg = said_to_all nick verb.Privmsg line
served nick line Notice = said_to_all nick verb.Notice line
served nick line Topic = passed line
served nick line Kick = passed line
served nick line Other = passed line

-- what is done for a registered client's line
abbrev pub attached_deeds : List ℕ → Parts → ClientCommand → List Deed
attached_deeds nick line command =
    if lacks command line then Write (not_enough nick line.command) ∷ [] else served nick line command

-- what is done for a client's line
abbrev pub line_deeds : Settings → Phase → Parts → List Deed
line_deeds s (Arriving arrival) line = arriving_deeds s arrival line (command_of line.command)
line_deeds s Attached line = attached_deeds s.nick line (command_of line.command)
line_deeds s Left line = []

-- a refused line is skipped
abbrev pub item_deeds : Settings → Phase → Item → List Deed
item_deeds s phase (Got line) = line_deeds s phase line
item_deeds s phase (Refused fault) = []

-- after a close all items are ignored
unfoldable pub fed : Settings → Progress → Item → Progress
fed s p item = if p.close then p else all_done s.nick p (item_deeds s p.phase item)

-- items, in this order
unfoldable pub all_fed : Settings → Progress → List Item → Progress
all_fed s p [] = p
all_fed s p (item ∷ items) = all_fed s (fed s p item) items
