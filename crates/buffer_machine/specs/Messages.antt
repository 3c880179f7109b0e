-- Origins, and the parts of a line that the buffers look at.
use Rattle.std.specs.Prelude.{ℕ, Bool, true, false, not, ◌&&◌, ◌||◌, if◌then◌else◌, ◌==◌, List, [], ◌∷◌, ◌++◌, length, None, is_some, unwrap_or, codes}
use Rattle.std.specs.List.{list_any, take_while}
use Rattle.irc_line.specs.Names.{same_bytes, same_name, first_is, is_name, is_channel, begins_with, action_mark}
use Rattle.irc_line.specs.Lines.{Parts, line_of, parameter}
use Rattle.machine_laws.specs.Origins.{same_origin}
use Rattle.wire_bytes.specs.declared.origin.Origin.{Origin}
use Rattle.buffer_commands.specs.declared.command.Verb.{Verb}
use Rattle.buffer_commands.specs.declared.command.Verb.TheVariants.{Privmsg, Notice}
use Rattle.buffer_machine.specs.declared.message.ChannelWord.{ChannelWord}
use Rattle.buffer_machine.specs.declared.message.ChannelWord.TheVariants.{Join, Part, Names}

-- an origin is one of these
abbrev pub is_among : Origin → List Origin → Bool
is_among o os = list_any (same_origin o) os

-- the list has no origins
abbrev pub is_none_of : List Origin → Bool
is_none_of [] = true
is_none_of (o ∷ os) = false

-- a line has this command, letter by letter
abbrev pub has_command : List ℕ → Parts → Bool
has_command word line = same_bytes line.command word

-- a PRIVMSG or a NOTICE
abbrev pub is_message : Parts → Bool
is_message line = has_command (codes "PRIVMSG") line || has_command (codes "NOTICE") line

-- no client-to-client (CTCP) message except ACTION
abbrev pub is_plain_or_action : List ℕ → Bool
is_plain_or_action text = not (first_is 1 text) || begins_with text action_mark

-- a message with a target and a text
abbrev pub is_storable : Parts → Bool
is_storable line = is_message line && length line.parameters == 2 && is_plain_or_action (parameter 1 line)

-- the part of a prefix before its first `!`
abbrev pub source : Parts → List ℕ
source line = take_while (λ b. not (b == 33)) (unwrap_or line.prefix [])

-- a line by this nick
abbrev pub is_by : List ℕ → Parts → Bool
is_by nick line = is_some line.prefix && same_name (source line) nick

-- a line by this nick that has this command and names a channel
abbrev pub is_own : List ℕ → List ℕ → Parts → Bool
is_own word nick line = has_command word line && is_by nick line && is_channel (parameter 0 line)

-- a line that kicks this nick from a channel
abbrev pub is_own_kick : List ℕ → Parts → Bool
is_own_kick nick line = has_command (codes "KICK") line && same_name nick (parameter 1 line) && is_channel (parameter 0 line)

-- a line that gives this nick another: the server's welcome, or a NICK of its own
abbrev pub is_new_nick : List ℕ → Parts → Bool
is_new_nick nick line = is_name (parameter 0 line) && (has_command (codes "001") line || (has_command (codes "NICK") line && is_by nick line))

-- a name that is no channel's
abbrev pub is_query_name : List ℕ → Bool
is_query_name name = is_name name && not (is_channel name)

-- a message to this nick from a sender who may have a query
abbrev pub is_query_line : List ℕ → Parts → Bool
is_query_line nick line = has_command (codes "PRIVMSG") line && is_some line.prefix && same_name nick (parameter 0 line) && is_query_name (source line)

-- a line whose first parameter is its channel
abbrev pub names_first : Parts → Bool
names_first line =
    list_any (λ w. has_command w line) (codes "JOIN" ∷ codes "PART" ∷ codes "KICK" ∷ codes "TOPIC" ∷ codes "MODE" ∷ codes "PRIVMSG" ∷ codes "NOTICE" ∷ [])

-- a line whose second parameter is its channel
abbrev pub names_second : Parts → Bool
names_second line = list_any (λ w. has_command w line) (codes "332" ∷ codes "366" ∷ codes "403" ∷ [])

-- the channel that a line names, whatever that name is; no bytes where its command names none
abbrev pub channel_of : Parts → List ℕ
channel_of line =
    if names_first line
    then parameter 0 line
    else
    if names_second line
    then parameter 1 line
    else
    if has_command (codes "353") line then parameter 2 line else []

-- a line with no prefix
abbrev pub bare : List ℕ → List (List ℕ) → Parts
bare command parameters = record { prefix = None; command = command; parameters = parameters }

-- the prefix of what a client of this nick says
abbrev pub own_prefix : List ℕ → List ℕ
own_prefix nick = nick ++ codes "!bouncer@local"

-- a command of this nick about a channel
abbrev pub own_line : List ℕ → List ℕ → List ℕ → Parts
own_line nick command channel = line_of (own_prefix nick) command (channel ∷ [])

-- the command of a message
abbrev pub verb_word : Verb → List ℕ
verb_word Privmsg = codes "PRIVMSG"
verb_word Notice = codes "NOTICE"

-- what a client says, as the others see it
abbrev pub own_said : List ℕ → Verb → List ℕ → List ℕ → Parts
own_said nick verb target text = line_of (own_prefix nick) (verb_word verb) (target ∷ text ∷ [])

-- a command about a channel
abbrev pub word_bytes : ChannelWord → List ℕ
word_bytes Join = codes "JOIN"
word_bytes Part = codes "PART"
word_bytes Names = codes "NAMES"
