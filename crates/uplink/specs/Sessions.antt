-- What the lines of the upstream server do, one after the other.
use Rattle.std.specs.Prelude.{ℕ, if◌then◌else◌, nat_le, List, [], ◌∷◌, ◌++◌, length, codes, Option, Some, None}
use Rattle.irc_line.specs.Lines.{Parts}
use Rattle.irc_line.specs.Names.{same_bytes}
use Rattle.irc_line.specs.declared.item.Item.{Item}
use Rattle.irc_line.specs.declared.item.Item.TheVariants.{Got, Refused}
use Rattle.uplink.specs.declared.input.UplinkInput.{UplinkInput}
use Rattle.uplink.specs.declared.input.UplinkInput.TheVariants.{Opened, Heard}
use Rattle.uplink.specs.declared.meaning.Meaning.{Meaning}
use Rattle.uplink.specs.declared.meaning.Meaning.TheVariants.{Ping, Welcome, NickInUse, Other}
use Rattle.uplink.specs.declared.session.Session.{Session}
use Rattle.uplink.specs.declared.session.Session.TheVariants.{Registering, Open}
use Rattle.uplink.specs.Sending.{nick_line, pong}

-- What a line means

-- PING is a PING (RFC 2812, 3.7.2), 001 takes the client in, and 433 says that the nick is in use (RFC 2812, 5)
abbrev pub meaning_of : Parts → Meaning
meaning_of line =
    if same_bytes line.command (codes "PING")
    then Ping
    else if same_bytes line.command (codes "001")
    then Welcome
    else if same_bytes line.command (codes "433")
    then NickInUse
    else Other

-- The nick

-- the nick to ask for if this one is in use: with `_` after it, while that is at most 64 bytes
abbrev pub next_nick : List ℕ → Option (List ℕ)
next_nick nick = if nat_le (length (nick ++ 95 ∷ [])) 64 then Some (nick ++ 95 ∷ []) else None

-- the session that asks for the next nick, if there is one, and else unchanged
abbrev pub asking : List ℕ → Option (List ℕ) → Session
asking nick None = Registering nick
asking nick (Some next) = Registering next

-- the next nick is asked for, if there is one
abbrev pub asked : Option (List ℕ) → List ℕ
asked None = []
asked (Some next) = nick_line next

-- One line

-- the session after a line of this meaning
abbrev pub after_meaning : Session → Meaning → Session
after_meaning (Registering nick) Ping = Registering nick
after_meaning (Registering nick) Welcome = Open
after_meaning (Registering nick) NickInUse = asking nick (next_nick nick)
after_meaning (Registering nick) Other = Registering nick
after_meaning Open meaning = Open

-- what a line of this meaning gives: the first 001 opens the session, and from it on each line except PING is heard
abbrev pub given_by : Session → Meaning → Parts → List UplinkInput
given_by (Registering nick) Ping line = []
given_by (Registering nick) Welcome line = Opened ∷ Heard line ∷ []
given_by (Registering nick) NickInUse line = []
given_by (Registering nick) Other line = []
given_by Open Ping line = []
given_by Open Welcome line = Heard line ∷ []
given_by Open NickInUse line = Heard line ∷ []
given_by Open Other line = Heard line ∷ []

-- what is written for a line of this meaning: each PING is answered, and a nick in use only before the first 001
abbrev pub written_for : Session → Meaning → Parts → List ℕ
written_for (Registering nick) Ping line = pong line.parameters
written_for (Registering nick) Welcome line = []
written_for (Registering nick) NickInUse line = asked (next_nick nick)
written_for (Registering nick) Other line = []
written_for Open Ping line = pong line.parameters
written_for Open Welcome line = []
written_for Open NickInUse line = []
written_for Open Other line = []

-- the session after a line from the server
unfoldable pub after_line : Session → Parts → Session
after_line session line = after_meaning session (meaning_of line)

-- what a line from the server gives to the node
unfoldable pub inputs_for : Session → Parts → List UplinkInput
inputs_for session line = given_by session (meaning_of line) line

-- the bytes that are written to the server for a line from it
unfoldable pub reply_to : Session → Parts → List ℕ
reply_to session line = written_for session (meaning_of line) line

-- One item of the stream: what is no line changes nothing and gives nothing

-- the session after an item: unchanged if that is no line
abbrev pub after_item : Session → Item → Session
after_item session (Got line) = after_line session line
after_item session (Refused fault) = session

-- what an item gives to the node: nothing if it is no line
abbrev pub inputs_at : Session → Item → List UplinkInput
inputs_at session (Got line) = inputs_for session line
inputs_at session (Refused fault) = []

-- the bytes that are written to the server for an item: none if it is no line
abbrev pub reply_at : Session → Item → List ℕ
reply_at session (Got line) = reply_to session line
reply_at session (Refused fault) = []

-- All items, in order

-- the session after them
abbrev pub after_items : Session → List Item → Session
after_items session [] = session
after_items session (item ∷ items) = after_items (after_item session item) items

-- what they give
abbrev pub inputs_from : Session → List Item → List UplinkInput
inputs_from session [] = []
inputs_from session (item ∷ items) = inputs_at session item ++ inputs_from (after_item session item) items

-- what is written for them
abbrev pub replies_from : Session → List Item → List ℕ
replies_from session [] = []
replies_from session (item ∷ items) = reply_at session item ++ replies_from (after_item session item) items
