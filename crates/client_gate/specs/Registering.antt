-- A client that is not registered yet (RFC 2812, 3.1).
use Rattle.std.specs.Prelude.{ℕ, Bool, true, false, ◌&&◌, ◌==◌, if◌then◌else◌, List, [], ◌∷◌, Option, Some, None, codes}
use Rattle.irc_line.specs.Names.{is_name, same_bytes}
use Rattle.irc_line.specs.Lines.{Parts, parameter}
use Rattle.buffer_commands.specs.declared.command.Action.TheVariants as action
use Rattle.client_gate.specs.declared.settings.Settings.{Settings}
use Rattle.client_gate.specs.declared.phase.Arrival.{Arrival}
use Rattle.client_gate.specs.declared.phase.Phase.TheVariants.{Arriving, Attached}
use Rattle.client_gate.specs.declared.client_command.ClientCommand.{ClientCommand}
use Rattle.client_gate.specs.declared.client_command.ClientCommand.TheVariants.{Pass, User, Nick, Cap, Ping, Quit}
use Rattle.client_gate.specs.Commands.{lacks}
use Rattle.client_gate.specs.Replies.{capabilities, incorrect, not_enough, not_registered, pong, welcome}
use Rattle.client_gate.specs.Turns.{Deed, Ask, Write, Move, Close}

-- A PASS is either the password, or anything, `@`, the name of the client, `:` and the password

-- one more byte before the cut
abbrev pub with_first : ℕ → Option (List ℕ × List ℕ) → Option (List ℕ × List ℕ)
with_first b None = None
with_first b (Some cut) = Some (b ∷ cut.0, cut.1)

-- what comes before the first of these bytes, and what follows it
abbrev pub first_cut : ℕ → List ℕ → Option (List ℕ × List ℕ)
first_cut mark [] = None
first_cut mark (b ∷ s) = if b == mark then Some ([], s) else with_first b (first_cut mark s)

-- what follows the first cut, cut at the first `:`
abbrev pub cut_behind : Option (List ℕ × List ℕ) → Option (List ℕ × List ℕ)
cut_behind None = None
cut_behind (Some cut) = first_cut 58 cut.1

-- what is between the first `@` of a PASS and the first `:` after that, and what follows this
abbrev pub named_in : List ℕ → Option (List ℕ × List ℕ)
named_in pass = cut_behind (first_cut 64 pass)

-- a client that gives a name, if that is a name and the password is right
abbrev pub by_name : List ℕ → Option (List ℕ × List ℕ) → Option (Option (List ℕ))
by_name right None = None
by_name right (Some named) = if same_bytes named.1 right && is_name named.0 then Some (Some named.0) else None

-- the name with which a PASS lets a client in, if it does: a PASS that is the password itself gives none, whatever it
-- contains
abbrev pub admission : List ℕ → List ℕ → Option (Option (List ℕ))
admission right pass = if same_bytes pass right then Some None else by_name right (named_in pass)

-- the name with which the last PASS lets a client in
abbrev pub last_admission : List ℕ → Option (List ℕ) → Option (Option (List ℕ))
last_admission right None = None
last_admission right (Some pass) = admission right pass

-- the client is registered and attaches, by its name if it gave one; or it is refused and the connection closes
abbrev pub let_in : Settings → Arrival → Option (Option (List ℕ)) → List Deed
let_in s arrival None = Write incorrect ∷ Move (Arriving arrival) ∷ Close ∷ []
let_in s arrival (Some id) = Write (welcome s.nick) ∷ Move Attached ∷ Ask (action.Attach id) ∷ []

-- NICK and USER were both seen
abbrev pub admitted : Settings → Arrival → List Deed
admitted s arrival = let_in s arrival (last_admission s.password arrival.password)

-- NICK or USER was seen now
abbrev pub seen : Settings → Arrival → List Deed
seen s arrival = if arrival.nick && arrival.user then admitted s arrival else Move (Arriving arrival) ∷ []

-- `CAP LS` is answered, any other CAP is skipped
abbrev pub cap_deeds : Parts → List Deed
cap_deeds line = if same_bytes (parameter 0 line) (codes "LS") then Write capabilities ∷ [] else []

-- a command with enough parameters
abbrev pub early : Settings → Arrival → Parts → ClientCommand → List Deed
early s arrival line Pass = Move (Arriving (record arrival { password = Some (parameter 0 line) })) ∷ []
early s arrival line Nick = seen s (record arrival { nick = true })
early s arrival line User = seen s (record arrival { user = true })
early s arrival line Cap = cap_deeds line
early s arrival line Ping = Write (pong (parameter 0 line)) ∷ []
early s arrival line Quit = Close ∷ []
early s arrival line _ = Write not_registered ∷ []

-- the commands that are known before registration
abbrev pub is_early : ClientCommand → Bool
is_early Pass = true
is_early Nick = true
is_early User = true
is_early Ping = true
is_early _ = false

-- what is done for a client's line before registration
abbrev pub arriving_deeds : Settings → Arrival → Parts → ClientCommand → List Deed
arriving_deeds s arrival line command =
    if is_early command && lacks command line
    then Write (not_enough (codes "*") line.command) ∷ []
    else early s arrival line command
