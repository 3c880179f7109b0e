-- One step of the machine, on what it holds: what it answers. These steps need not be trusted: it is proved that they
-- give what Effects defines.
use Rattle.std.specs.Prelude.{ℕ, not, ◌&&◌, ◌||◌, if◌then◌else◌, List, [], ◌∷◌, ◌++◌, map, Option, Some, None, filter, flat_map, codes}
use Rattle.irc_line.specs.Names.{fold_name, is_channel}
use Rattle.irc_line.specs.Lines.{Parts}
use Rattle.buffer_lines.specs.Stamps.{framed}
use Rattle.buffer_targets.specs.Targets.{ChannelLines, TargetLines, channel_of_key, query_of_key, unseen_of}
use Rattle.wire_bytes.specs.declared.origin.Origin.{Origin}
use Rattle.buffer_commands.specs.Settings.{Settings}
use Rattle.buffer_commands.specs.declared.command.Action.TheVariants.{Attach, Leave, Say, Join, Part, Detach, Reattach, Play, Clear, ClearChannels, ClearQueries, ClearAll, SetBuffer, Pass}
use Rattle.buffer_commands.specs.declared.command.Command.{Command}
use Rattle.buffer_commands.specs.declared.command.Verb.{Verb}
use Rattle.buffer_commands.specs.declared.command.Command.TheVariants.{Client, Upstream, NodeGone, Up, Down}
use Rattle.buffer_commands.specs.declared.effect.Effect.{Effect}
use Rattle.buffer_commands.specs.declared.effect.Effect.TheVariants.{Close, Send, Rejoin}
use Rattle.machine_laws.specs.Origins.{same_origin}
use Rattle.buffer_machine.specs.Messages.{is_among, has_command, channel_of, bare, own_line, own_said, verb_word}
use Rattle.buffer_machine.specs.Buffers.{is_past}
use Rattle.buffer_machine.specs.Crowd.{can_attach, may_name}
use Rattle.buffer_machine.specs.Effects.{if_some, show_all, show_each, status}
use Rattle.buffer_machine.specs.Held.{Held, index_in}
use Rattle.buffer_machine.specs.Steps.{is_detached, found}

-- what is played of a target: all that is kept
abbrev pub played : ℕ → TargetLines → List Parts
played offset t = framed offset t.name t.lines.lines

-- what is played of a target to a client: all that is kept, or what its name has not seen, by the name's place
abbrev pub played_by : ℕ → Option ℕ → TargetLines → List Parts
played_by offset None t = played offset t
played_by offset (Some i) t = framed offset t.name (unseen_of i t)

-- the place of the name that a client gives, if it gives one
abbrev pub standing : Option (List ℕ) → List (List ℕ) → Option ℕ
standing None ids = None
standing (Some id) ids = Some (index_in id ids)

-- the target of a key, a channel or a query
abbrev pub first_some : Option ChannelLines → Option TargetLines → Option TargetLines
first_some None t = t
first_some (Some c) t = Some c.target

-- the target that a key finds: the channel of this key, else the query of it
abbrev pub target_of_key : List ℕ → Held → Option TargetLines
target_of_key key h = first_some (channel_of_key key h.channels) (query_of_key key h.queries)

-- what is played of a target, if there is one
abbrev pub played_of : ℕ → Option TargetLines → List Parts
played_of offset None = []
played_of offset (Some t) = played offset t

-- the name with which a channel was made; the requested name, if there is none
abbrev pub name_of : List ℕ → Option ChannelLines → List ℕ
name_of asked None = asked
name_of asked (Some c) = c.target.name

-- an asker that is not attached is closed
abbrev pub closed_out : Origin → List Origin → List Effect
closed_out o os = if is_among o os then [] else Close o ∷ []

-- all clients except one
abbrev pub others : Origin → List Origin → List Origin
others o os = filter (λ p. not (same_origin o p)) os

-- Attach: the others are closed if only one client may be attached, and all that is not detached is played

-- what a client that attaches is shown of a channel
abbrev pub shown_at_attach : ℕ → List ℕ → Origin → Option ℕ → ChannelLines → List Effect
shown_at_attach offset nick o i c =
    if c.detached then [] else show_all o (if_some c.joined (own_line nick (codes "JOIN") c.target.name ∷ []) ++ played_by offset i c.target)

-- what is sent about a channel for a client that attaches
abbrev pub sent_at_attach : Origin → ChannelLines → List Effect
sent_at_attach o c = if not c.detached && c.joined then Send o (bare (codes "NAMES") (c.target.name ∷ [])) ∷ [] else []

-- the answer to an Attach
abbrev pub answers_attaching : Settings → ℕ → Held → Origin → Option (List ℕ) → List Effect
answers_attaching s floor h o id =
    if can_attach floor h.clients o && may_name h.names.ids id
    then
    (if s.many_clients then [] else map Close h.clients)
    ++ flat_map (shown_at_attach s.offset h.nick o (standing id h.names.ids)) h.channels
    ++ flat_map (λ t. show_all o (played_by s.offset (standing id h.names.ids) t)) h.queries
    ++ flat_map (sent_at_attach o) h.channels
    else closed_out o h.clients

-- Say: shown to the others if it is for a channel that is not detached, and sent
abbrev pub answers_saying : Held → Origin → List ℕ → Parts → List Parts → List Effect
answers_saying h o name line sent =
    (if is_channel name && not (is_detached (channel_of_key (fold_name name) h.channels)) then show_each (others o h.clients) (line ∷ []) else [])
    ++ map (λ l. Send o l) sent

-- a client is shown that a channel is joined, and what it is played of it
abbrev pub shown_joined : ℕ → List ℕ → ChannelLines → Option ℕ → Origin → List Effect
shown_joined offset nick c i o = show_all o (own_line nick (codes "JOIN") c.target.name ∷ played_by offset i c.target)

-- the place of the name of the first client that has one, if that is this client
abbrev pub reader_next : Origin → List (Origin × ℕ) → Option ℕ
reader_next o [] = None
reader_next o (h ∷ hs) = if same_origin h.0 o then Some h.1 else None

-- the clients that have a name, without this one if it is the first
abbrev pub readers_left : Origin → List (Origin × ℕ) → List (Origin × ℕ)
readers_left o [] = []
readers_left o (h ∷ hs) = if same_origin h.0 o then hs else h ∷ hs

-- each of these clients is shown it, by its name if it has one; the clients that have one are in the same order
abbrev pub each_shown_joined : ℕ → List ℕ → ChannelLines → List Origin → List (Origin × ℕ) → List Effect
each_shown_joined offset nick c [] hs = []
each_shown_joined offset nick c (o ∷ os) hs =
    shown_joined offset nick c (reader_next o hs) o ++ each_shown_joined offset nick c os (readers_left o hs)

-- a detached channel is attached again: all are shown it, and NAMES is sent, or JOIN if it is not joined
abbrev pub answers_again : Settings → Held → Origin → ChannelLines → List Effect
answers_again s h o c =
    each_shown_joined s.offset h.nick c h.clients h.names.holders
    ++ Send o (bare (if c.joined then codes "NAMES" else codes "JOIN") (c.target.name ∷ [])) ∷ []

-- the answer to a Join, by the channel of its name
abbrev pub answers_joining : Settings → Held → Origin → List ℕ → Option ChannelLines → List Effect
answers_joining s h o name None = Send o (bare (codes "JOIN") (name ∷ [])) ∷ []
answers_joining s h o name (Some c) =
    if c.detached
    then answers_again s h o c
    else
    if c.joined then [] else Send o (bare (codes "JOIN") (c.target.name ∷ [])) ∷ []

-- the answer to a Part
abbrev pub answers_parting : Origin → List ℕ → Option ChannelLines → List Effect
answers_parting o name None = Send o (bare (codes "PART") (name ∷ [])) ∷ []
answers_parting o name (Some c) = if c.joined then Send o (bare (codes "PART") (c.target.name ∷ [])) ∷ [] else []

-- the answer to a Detach
abbrev pub answers_detaching : Held → Origin → Option ChannelLines → List Effect
answers_detaching h o None = status h.nick o (codes "No such target.")
answers_detaching h o (Some c) = if c.detached then [] else show_each h.clients (own_line h.nick (codes "PART") c.target.name ∷ [])

-- the answer to a Reattach
abbrev pub answers_reattaching : Settings → Held → Origin → Option ChannelLines → List Effect
answers_reattaching s h o None = status h.nick o (codes "No such target.")
answers_reattaching s h o (Some c) = if c.detached then answers_again s h o c else []

-- the answer to a Play, by the target of its name
abbrev pub played_or_status : Settings → Held → Origin → Option TargetLines → List Effect
played_or_status s h o None = status h.nick o (codes "No such target.")
played_or_status s h o (Some t) = show_all o (played s.offset t)

-- the answer to a Clear
abbrev pub done_or_status : Held → Origin → Option TargetLines → List Effect
done_or_status h o None = status h.nick o (codes "No such target.")
done_or_status h o (Some t) = status h.nick o (codes "Done.")

-- the answer to a SetBuffer
abbrev pub answers_sizing : Held → Origin → List ℕ → ℕ → List Effect
answers_sizing h o t n = if is_past n then status h.nick o (codes "Size is past 500.") else done_or_status h o (target_of_key (fold_name t) h)

-- the answer to a Join by an asker that is attached, by the requested name
abbrev pub joining : Settings → Held → Origin → List ℕ → List Effect
joining s h o name = answers_joining s h o name (found name h)

-- the answer to a Part by an asker that is attached, by the requested name
abbrev pub parting : Held → Origin → List ℕ → List Effect
parting h o name = answers_parting o name (found name h)

-- the answer to a Detach by an asker that is attached, by the requested name
abbrev pub detaching : Held → Origin → List ℕ → List Effect
detaching h o name = answers_detaching h o (found name h)

-- the answer to a Reattach by an asker that is attached, by the requested name
abbrev pub reattaching : Settings → Held → Origin → List ℕ → List Effect
reattaching s h o name = answers_reattaching s h o (found name h)

-- the answer to a Play by an asker that is attached, by the name of the target
abbrev pub playing : Settings → Held → Origin → List ℕ → List Effect
playing s h o name = played_or_status s h o (target_of_key (fold_name name) h)

-- the answer to a Clear by an asker that is attached, by the name of the target
abbrev pub clearing : Held → Origin → List ℕ → List Effect
clearing h o name = done_or_status h o (target_of_key (fold_name name) h)

-- a line shown to the others, unless its channel is detached
abbrev pub sharing : Held → Origin → Parts → List Effect
sharing h o line = if not (is_detached (found (channel_of line) h)) then show_each (others o h.clients) (line ∷ []) else []

-- what is shown and sent for what a client says
abbrev pub saying : Held → Origin → Verb → List ℕ → List ℕ → List Effect
saying h o verb name text = answers_saying h o name (own_said h.nick verb name text) (bare (verb_word verb) (name ∷ text ∷ []) ∷ [])

-- a line of the own nick shown to all
abbrev pub show_own : Held → List ℕ → List ℕ → List Parts → List Effect
show_own h command name more = show_each h.clients (own_line h.nick command name ∷ more)

-- a line from upstream is shown to all, except the server's welcome and a line of a detached channel
abbrev pub answers_taking : Held → Parts → List Effect
answers_taking h line =
    if not (has_command (codes "001") line || is_detached (channel_of_key (fold_name (channel_of line)) h.channels))
    then show_each h.clients (line ∷ [])
    else []

-- each channel is joined again
abbrev pub rejoins : List ChannelLines → List Effect
rejoins cs = map (λ c. Rejoin (bare (codes "JOIN") (c.target.name ∷ []))) cs

-- where the asker is attached
abbrev pub if_attached : Origin → Held → List Effect → List Effect
if_attached o h effects = if is_among o h.clients then effects else Close o ∷ []

-- the answer to a command
abbrev pub answers : Settings → ℕ → Held → Command → List Effect
answers s floor h (Client o at (Attach id)) = answers_attaching s floor h o id
answers s floor h (Client o at Leave) = closed_out o h.clients
answers s floor h (Client o at (Say verb name text)) =
    if_attached o h (answers_saying h o name (own_said h.nick verb name text) (bare (verb_word verb) (name ∷ text ∷ []) ∷ []))
answers s floor h (Client o at (Join c)) = if_attached o h (answers_joining s h o c (channel_of_key (fold_name c) h.channels))
answers s floor h (Client o at (Part c)) = if_attached o h (answers_parting o c (channel_of_key (fold_name c) h.channels))
answers s floor h (Client o at (Detach c)) = if_attached o h (answers_detaching h o (channel_of_key (fold_name c) h.channels))
answers s floor h (Client o at (Reattach c)) = if_attached o h (answers_reattaching s h o (channel_of_key (fold_name c) h.channels))
answers s floor h (Client o at (Play t)) = if_attached o h (played_or_status s h o (target_of_key (fold_name t) h))
answers s floor h (Client o at (Clear t)) = if_attached o h (done_or_status h o (target_of_key (fold_name t) h))
answers s floor h (Client o at ClearChannels) = if_attached o h (status h.nick o (codes "Done."))
answers s floor h (Client o at ClearQueries) = if_attached o h (status h.nick o (codes "Done."))
answers s floor h (Client o at ClearAll) = if_attached o h (status h.nick o (codes "Done."))
answers s floor h (Client o at (SetBuffer t n)) = if_attached o h (answers_sizing h o t n)
answers s floor h (Client o at (Pass line)) = if_attached o h (Send o line ∷ [])
answers s floor h (Upstream at line) = answers_taking h line
answers s floor h (NodeGone node boot) = []
answers s floor h Up = rejoins h.channels
answers s floor h Down = []
