-- What a command brings about: what is closed, then shown, then sent or joined again.
use Rattle.std.specs.Prelude.{◌≡◌, ℕ, Bool, true, not, ◌&&◌, ◌||◌, if◌then◌else◌, List, [], ◌∷◌, ◌++◌, map, filter, flat_map, find, unwrap_or, codes, Option, ⊤}
use Rattle.irc_line.specs.Names.{fold_name, is_channel}
use Rattle.irc_line.specs.Keys.{at_key, is_in}
use Rattle.irc_line.specs.Lines.{Parts, spelling, line_of}
use Rattle.wire_bytes.specs.declared.origin.Origin.{Origin}
use Rattle.buffer_commands.specs.Settings.{Settings}
use Rattle.buffer_commands.specs.declared.command.Action.{Action}
use Rattle.buffer_commands.specs.declared.command.Action.TheVariants.{Attach, Leave, Say, Join, Part, Detach, Reattach, Play, Clear, ClearChannels, ClearQueries, ClearAll, SetBuffer, Pass}
use Rattle.buffer_commands.specs.declared.command.Command.{Command}
use Rattle.buffer_commands.specs.declared.command.Command.TheVariants.{Client, Upstream, NodeGone, Up, Down}
use Rattle.buffer_commands.specs.declared.effect.Effect.{Effect}
use Rattle.buffer_commands.specs.declared.effect.Effect.TheVariants.{Close, Show, Send, Rejoin}
use Rattle.machine_laws.specs.Origins.{same_origin}
use Rattle.buffer_machine.specs.Messages.{is_among, has_command, channel_of, bare, own_line, own_said, verb_word}
use Rattle.buffer_machine.specs.Crowd.{attached, takes, id_of}
use Rattle.buffer_machine.specs.Marks.{playback_by}
use Rattle.buffer_machine.specs.Buffers.{nick, channels, queries, is_known, joined, detached, is_past, playback}

-- lines shown to a client
abbrev pub show_all : Origin → List Parts → List Effect
show_all o lines = map (λ line. Show o (spelling line)) lines

-- lines sent for a client
abbrev pub send_all : Origin → List Parts → List Effect
send_all o lines = map (λ line. Send o line) lines

-- lines, given by their spelling, shown to a client
abbrev pub copies : List (List ℕ) → Origin → List Effect
copies lines o = map (λ x. Show o x) lines

-- the same lines shown to each of these clients
abbrev pub show_each : List Origin → List Parts → List Effect
show_each os lines = flat_map (λ p. show_all p lines) os

-- an answer of the bouncer itself to one client
abbrev pub status : List ℕ → Origin → List ℕ → List Effect
status nick o text = Show o (spelling (line_of (codes "*status!bouncer@local") (codes "PRIVMSG") (nick ∷ text ∷ []))) ∷ []

-- a channel by the name it was made with; an unknown one by the requested name
unfoldable pub named : Settings → List Command → List ℕ → List ℕ
named s history c = unwrap_or (find (at_key (fold_name c)) (channels s history)) c

-- whether a channel of this name is known
unfoldable pub is_channel_known : Settings → List Command → List ℕ → Bool
is_channel_known s history c = is_in (fold_name c) (channels s history)

-- the channels that an attaching client is shown, in order of their keys
unfoldable pub open_channels : Settings → List Command → List (List ℕ)
open_channels s earlier = filter (λ c. not (detached s earlier (fold_name c))) (channels s earlier)

-- What is closed: an asker that is not attached, one below its node's floor or without room for its name, and the
-- others if only one client may be attached

-- who is closed, by what held before the command
abbrev pub closed : Bool → Bool → List Origin → Command → List Effect
closed many taken os (Client o at (Attach id)) =
    if taken then (if many then [] else map Close os) else (if is_among o os then [] else Close o ∷ [])
closed many taken os (Client o at _) = if is_among o os then [] else Close o ∷ []
closed many taken os _ = []

-- who is closed by a command
unfoldable pub closings : Settings → List Command → Command → List Effect
closings s earlier (Client o at a) =
    closed s.many_clients (takes s earlier (Client o at a)) (attached s earlier) (Client o at a)
closings s earlier _ = []

-- What is shown

-- a list, if this holds
abbrev pub if_some : {A : Type 0} → Bool → List A → List A
if_some b xs = if b then xs else []

-- a channel that is attached again, shown to all: that it is joined, and what each is played of it
abbrev pub shown_again : Settings → List Command → List Origin → List ℕ → List ℕ → List Effect
shown_again s earlier os own c =
    flat_map (λ p. show_all p (own_line own (codes "JOIN") (named s earlier c) ∷ playback_by s earlier (id_of s earlier p) (fold_name c))) os

-- by an action of an attached client
abbrev pub shown_by : Settings → List Command → List Origin → List ℕ → Origin → Action → List Effect
shown_by s earlier os own o (Attach id) = []
shown_by s earlier os own o Leave = []
shown_by s earlier os own o (Say verb target text) =
    if is_channel target && not (detached s earlier (fold_name target))
    then show_each (filter (λ p. not (same_origin o p)) os) (own_said own verb target text ∷ [])
    else []
shown_by s earlier os own o (Join c) = if detached s earlier (fold_name c) then shown_again s earlier os own c else []
shown_by s earlier os own o (Part c) = []
shown_by s earlier os own o (Detach c) =
    if not (is_channel_known s earlier c)
    then status own o (codes "No such target.")
    else
    if detached s earlier (fold_name c) then [] else show_each os (own_line own (codes "PART") (named s earlier c) ∷ [])
shown_by s earlier os own o (Reattach c) =
    if not (is_channel_known s earlier c)
    then status own o (codes "No such target.")
    else
    if detached s earlier (fold_name c) then shown_again s earlier os own c else []
shown_by s earlier os own o (Play t) =
    if is_known s earlier (fold_name t) then show_all o (playback s earlier (fold_name t)) else status own o (codes "No such target.")
shown_by s earlier os own o (Clear t) =
    status own o (if is_known s earlier (fold_name t) then codes "Done." else codes "No such target.")
shown_by s earlier os own o ClearChannels = status own o (codes "Done.")
shown_by s earlier os own o ClearQueries = status own o (codes "Done.")
shown_by s earlier os own o ClearAll = status own o (codes "Done.")
shown_by s earlier os own o (SetBuffer t n) =
    status own o (if is_past n then codes "Size is past 500." else if is_known s earlier (fold_name t) then codes "Done." else codes "No such target.")
shown_by s earlier os own o (Pass line) = []

-- to a client whose Attach is taken: each channel that is not detached, then each query in the order in which they were
-- made
abbrev pub shown_attaching : Settings → List Command → List ℕ → Origin → Option (List ℕ) → List Effect
shown_attaching s earlier own o id =
    flat_map (λ c. show_all o (if_some (joined s earlier (fold_name c)) (own_line own (codes "JOIN") c ∷ []) ++ playback_by s earlier id (fold_name c))) (open_channels s earlier)
    ++ flat_map (λ q. show_all o (playback_by s earlier id (fold_name q))) (queries s earlier)

-- a line from upstream is shown to all, except the server's welcome and a line of a detached channel
abbrev pub is_shown : Settings → List Command → Parts → Bool
is_shown s earlier line = not (has_command (codes "001") line || detached s earlier (fold_name (channel_of line)))

-- who is shown what by a command
unfoldable pub shown : Settings → List Command → Command → List Effect
shown s earlier (Client o at (Attach id)) =
    if takes s earlier (Client o at (Attach id)) then shown_attaching s earlier (nick s earlier) o id else []
shown s earlier (Client o at a) =
    if is_among o (attached s earlier) then shown_by s earlier (attached s earlier) (nick s earlier) o a else []
shown s earlier (Upstream at line) = if is_shown s earlier line then show_each (attached s earlier) (line ∷ []) else []
shown s earlier _ = []

-- What is sent, or joined again

-- for a channel that is attached again: NAMES, or JOIN if it is not joined
abbrev pub sent_again : Settings → List Command → List ℕ → List Parts
sent_again s earlier c = bare (if joined s earlier (fold_name c) then codes "NAMES" else codes "JOIN") (named s earlier c ∷ []) ∷ []

-- what is sent for an action of an attached client
abbrev pub sent_by : Settings → List Command → Action → List Parts
sent_by s earlier (Say verb target text) = bare (verb_word verb) (target ∷ text ∷ []) ∷ []
sent_by s earlier (Join c) =
    if detached s earlier (fold_name c)
    then sent_again s earlier c
    else
    if is_channel_known s earlier c && joined s earlier (fold_name c) then [] else bare (codes "JOIN") (named s earlier c ∷ []) ∷ []
sent_by s earlier (Part c) =
    if is_channel_known s earlier c && not (joined s earlier (fold_name c)) then [] else bare (codes "PART") (named s earlier c ∷ []) ∷ []
sent_by s earlier (Reattach c) = if detached s earlier (fold_name c) then sent_again s earlier c else []
sent_by s earlier (Pass line) = line ∷ []
sent_by s earlier _ = []

-- what a command sends upstream
unfoldable pub sent : Settings → List Command → Command → List Effect
sent s earlier (Client o at (Attach id)) =
    if takes s earlier (Client o at (Attach id))
    then send_all o (map (λ c. bare (codes "NAMES") (c ∷ [])) (filter (λ c. joined s earlier (fold_name c)) (open_channels s earlier)))
    else []
sent s earlier (Client o at a) = if is_among o (attached s earlier) then send_all o (sent_by s earlier a) else []
sent s earlier Up = map (λ c. Rejoin (bare (codes "JOIN") (c ∷ []))) (channels s earlier)
sent s earlier _ = []

-- all of it, in this order
unfoldable pub effects : Settings → List Command → Command → List Effect
effects s earlier x = closings s earlier x ++ shown s earlier x ++ sent s earlier x

-- a command that allocates nothing: the end of the upstream, a node that is gone, and Leave of an attached client
abbrev pub TakesNone : List Origin → Command → Type 0
TakesNone attached (Client o at Leave) = is_among o attached ≡ true
TakesNone attached (NodeGone node boot) = ⊤
TakesNone attached Down = ⊤
TakesNone attached _ = ⊥
