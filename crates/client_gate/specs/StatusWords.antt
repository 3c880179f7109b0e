-- What a client says to `*status`: words that request something, in either case.
use Rattle.std.specs.Prelude.{ℕ, ◌+◌, ◌*◌, ◌-◌, ◌&&◌, min, Bool, if◌then◌else◌, List, [], ◌∷◌, map, Option, Some, None, codes}
use Rattle.std.specs.List.{list_all}
use Rattle.irc_line.specs.Names.{is_channel, is_name, same_bytes}
use Rattle.irc_line.specs.Lines.{is_digit}
use Rattle.irc_line.specs.Grammar.{upper}
use Rattle.buffer_commands.specs.declared.command.Action.{Action}
use Rattle.buffer_commands.specs.declared.command.Action.TheVariants as action
use Rattle.client_gate.specs.declared.status_word.StatusWord.{StatusWord}
use Rattle.client_gate.specs.declared.status_word.StatusWord.TheVariants.{Clients, DropWaiting, Help, Status, Unknown}
use Rattle.client_gate.specs.Turns.{Deed, Ask, Note, Write}
use Rattle.client_gate.specs.Replies.{status}
use Rattle.client_gate.specs.Words.{words}

-- a word in either case equals this one; the second is in upper case
abbrev pub is_spelled : List ℕ → List ℕ → Bool
is_spelled word spelled = same_bytes (map upper word) spelled

-- a number followed by this digit; above 65,535 it stays 65,535
abbrev pub with_digit : ℕ → ℕ → ℕ
with_digit n digit = min 65535 (10 * n + (digit - 48))

-- the number that these digits make after this one
abbrev pub number_from : ℕ → List ℕ → ℕ
number_from n [] = n
number_from n (digit ∷ digits) = number_from (with_digit n digit) digits

-- a number in decimal; above 65,535 it is 65,535
abbrev pub number_of : List ℕ → Option ℕ
number_of [] = None
number_of (b ∷ s) = if list_all is_digit (b ∷ s) then Some (number_from 0 (b ∷ s)) else None

-- the request of one word
abbrev pub asked_by_one : List ℕ → Option Action
asked_by_one word =
    if is_spelled word (codes "CLEARALLCHANNELBUFFERS") then Some action.ClearChannels
    else if is_spelled word (codes "CLEARALLQUERYBUFFERS") then Some action.ClearQueries
    else if is_spelled word (codes "CLEARALLBUFFERS") then Some action.ClearAll
    else None

-- a request about a channel
abbrev pub about_channel : (List ℕ → Action) → List ℕ → Option Action
about_channel a name = if is_channel name then Some (a name) else None

-- a request about any target
abbrev pub about_name : (List ℕ → Action) → List ℕ → Option Action
about_name a name = if is_name name then Some (a name) else None

-- the request of a word with a target
abbrev pub asked_by_two : List ℕ → List ℕ → Option Action
asked_by_two word target =
    if is_spelled word (codes "ATTACH") then about_channel action.Reattach target
    else if is_spelled word (codes "DETACH") then about_channel action.Detach target
    else if is_spelled word (codes "PLAYBUFFER") then about_name action.Play target
    else if is_spelled word (codes "CLEARBUFFER") then about_name action.Clear target
    else None

-- a size for a target
abbrev pub sized : List ℕ → Option ℕ → Option Action
sized target None = None
sized target (Some size) = about_name (λ name. action.SetBuffer name size) target

-- the request of a word with a target and a number
abbrev pub asked_by_three : List ℕ → List ℕ → List ℕ → Option Action
asked_by_three word target number = if is_spelled word (codes "SETBUFFER") then sized target (number_of number) else None

-- the request of these words
abbrev pub asked_by : List (List ℕ) → Option Action
asked_by (word ∷ []) = asked_by_one word
asked_by (word ∷ target ∷ []) = asked_by_two word target
asked_by (word ∷ target ∷ number ∷ []) = asked_by_three word target number
asked_by _ = None

-- what one word says that makes no request to the buffers
abbrev pub said_by_one : List ℕ → StatusWord
said_by_one word =
    if is_spelled word (codes "HELP") then Help
    else if is_spelled word (codes "STATUS") then Status
    else if is_spelled word (codes "CLIENTS") then Clients
    else Unknown

-- what a word with an argument says that makes no request to the buffers
abbrev pub said_by_two : List ℕ → List ℕ → StatusWord
said_by_two word argument = if is_spelled word (codes "DROP") && is_spelled argument (codes "WAITING") then DropWaiting else Unknown

-- what words say that make no request to the buffers
abbrev pub said_by : List (List ℕ) → StatusWord
said_by (word ∷ []) = said_by_one word
said_by (word ∷ argument ∷ []) = said_by_two word argument
said_by _ = Unknown

-- the request, or if there is none, what these words say
abbrev pub status_answer : List ℕ → StatusWord → Option Action → List Deed
status_answer nick word (Some a) = Ask a ∷ []
status_answer nick word None = Write (status nick (codes "Unknown command.")) ∷ Note word ∷ []

-- what is done for a text to `*status`
abbrev pub status_deeds : List ℕ → List ℕ → List Deed
status_deeds nick text = status_answer nick (said_by (words text)) (asked_by (words text))
