-- The commands of a client, and the fewest parameters of each.
use Rattle.std.specs.Prelude.{ℕ, Bool, true, false, ◌&&◌, ◌||◌, if◌then◌else◌, ◌==◌, nat_lt, List, length, None, codes}
use Rattle.irc_line.specs.Names.{same_bytes}
use Rattle.irc_line.specs.Lines.{Parts, parameter}
use Rattle.client_gate.specs.declared.client_command.ClientCommand.{ClientCommand}
use Rattle.client_gate.specs.declared.client_command.ClientCommand.TheVariants.{Pass, User, Nick, Cap, Ping, Pong, Quit, Join, Part, Privmsg, Notice, Topic, Kick, Other}

-- the command of this word, which is in upper case
unfoldable pub command_of : List ℕ → ClientCommand
command_of word =
    if same_bytes word (codes "PASS") then Pass
    else if same_bytes word (codes "USER") then User
    else if same_bytes word (codes "NICK") then Nick
    else if same_bytes word (codes "CAP") then Cap
    else if same_bytes word (codes "PING") then Ping
    else if same_bytes word (codes "PONG") then Pong
    else if same_bytes word (codes "QUIT") then Quit
    else if same_bytes word (codes "JOIN") then Join
    else if same_bytes word (codes "PART") then Part
    else if same_bytes word (codes "PRIVMSG") then Privmsg
    else if same_bytes word (codes "NOTICE") then Notice
    else if same_bytes word (codes "TOPIC") then Topic
    else if same_bytes word (codes "KICK") then Kick
    else Other

-- its fewest parameters
abbrev pub fewest : ClientCommand → ℕ
fewest Pass = 1
fewest Nick = 1
fewest Join = 1
fewest Part = 1
fewest Ping = 1
fewest Topic = 1
fewest Privmsg = 2
fewest Notice = 2
fewest Kick = 2
fewest User = 4
fewest _ = 0

-- it is a message, whose text may not be empty
abbrev pub has_text : ClientCommand → Bool
has_text Privmsg = true
has_text Notice = true
has_text _ = false

-- too few parameters, or an empty text of a message
abbrev pub lacks : ClientCommand → Parts → Bool
lacks command line =
    nat_lt (length line.parameters) (fewest command) || (has_text command && length (parameter 1 line) == 0)

-- a client's line, whose prefix is dropped
abbrev pub without_prefix : Parts → Parts
without_prefix line = record line { prefix = None }
