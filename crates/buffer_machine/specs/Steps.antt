-- One step of the machine, on what it holds: what it holds next. These steps need not be trusted: it is proved that
-- they give what Buffers defines.
use Rattle.std.specs.Prelude.{◌≡◌, ℕ, ◌<◌, Bool, true, false, not, ◌&&◌, ◌||◌, if◌then◌else◌, List, [], map, filter, Option, Some, None, is_some, codes, ⊤}
use Rattle.irc_line.specs.Names.{fold_name, is_channel}
use Rattle.irc_line.specs.Lines.{Parts, parameter}
use Rattle.buffer_lines.specs.Stamps.{ring}
use Rattle.buffer_targets.specs.Targets.{StandsAt, ChannelLines, TargetLines, channel, target, cleared, resized, pushed, over, with_joined, with_detached, at_channel, channel_of_key, joined_by, without_channel, open_cleared, open_seen, seen_all, none_seen, reader, at_query, query_stored}
use Rattle.wire_bytes.specs.declared.origin.Origin.{Origin}
use Rattle.buffer_commands.specs.Settings.{Settings}
use Rattle.buffer_commands.specs.declared.command.Action.TheVariants.{Attach, Leave, Say, Join, Part, Detach, Reattach, Play, Clear, ClearChannels, ClearQueries, ClearAll, SetBuffer, Pass}
use Rattle.buffer_commands.specs.declared.command.Command.{Command}
use Rattle.buffer_commands.specs.declared.command.Verb.{Verb}
use Rattle.buffer_commands.specs.declared.command.Command.TheVariants.{Client, Upstream, NodeGone, Up, Down}
use Rattle.buffer_machine.specs.Messages.{is_among, is_storable, is_own, is_own_kick, is_query_line, source, channel_of, own_said}
use Rattle.machine_laws.specs.Origins.{same_origin}
use Rattle.buffer_machine.specs.Buffers.{is_past, keeps, nick_after, said}
use Rattle.buffer_machine.specs.Crowd.{attached_after, is_some_of}
use Rattle.buffer_machine.specs.Held.{Held, Names, holding, index_in, names_of}
use Rattle.buffer_machine.specs.NameSteps.{here_in, here_of, index_of, names_after, taken_now, with_holder}

-- what the types of a command guarantee: its client's node is one of 1 to 7
abbrev pub IsWithinLimits : Command → Type 0
IsWithinLimits (Client o at action) = o.0 < 8
IsWithinLimits _ = ⊤

-- What is kept next

-- there is a channel, and it is detached
abbrev pub is_detached : Option ChannelLines → Bool
is_detached None = false
is_detached (Some c) = c.detached

-- there is a channel, and the own nick is in it
abbrev pub is_joined : Option ChannelLines → Bool
is_joined None = false
is_joined (Some c) = c.joined

-- the channel of a name
abbrev pub found : List ℕ → Held → Option ChannelLines
found name h = channel_of_key (fold_name name) h.channels

-- the place of a key says whether there is a channel, and whether it is detached
abbrev pub IsKnownAt : List ChannelLines → Option ℕ → Bool → Type 0
IsKnownAt cs place b = (key : List ℕ) → StandsAt key cs place → b ≡ is_some (channel_of_key key cs)

-- the place of a key says whether there is a channel that is detached
abbrev pub IsDetachedAt : List ChannelLines → Option ℕ → Bool → Type 0
IsDetachedAt cs place b = (key : List ℕ) → StandsAt key cs place → b ≡ is_detached (channel_of_key key cs)

-- this is the place of the channel that a line names
abbrev pub HasPlace : Parts → Held → Option ℕ → Type 0
HasPlace line h place = StandsAt (fold_name (channel_of line)) h.channels place

-- other channels are held, and all else as before
abbrev pub with_channels : Held → List ChannelLines → Held
with_channels h cs = holding h.nick h.clients h.names cs h.queries

-- other queries are held, and all else as before
abbrev pub with_queries : Held → List TargetLines → Held
with_queries h ts = holding h.nick h.clients h.names h.channels ts

-- whether the channel that a line names stores it, where it is known
abbrev pub stores_in_channel : Settings → Held → Parts → Bool
stores_in_channel s h line = is_storable line && (keeps s.clears_channels h.clients h.names.ids || is_detached (found (channel_of line) h))

-- whether a query stores a line
abbrev pub stores_in_query : Settings → Held → Parts → Bool
stores_in_query s h line =
    is_storable line && not (is_some (found (channel_of line) h)) && keeps s.clears_queries h.clients h.names.ids && is_query_line h.nick line

-- a line stored in the channel that it is for, if that keeps lines now or is detached
abbrev pub channels_storing : Settings → Held → Option (ℕ × Parts) → List ChannelLines
channels_storing s h None = h.channels
channels_storing s h (Some line) =
    if is_storable line.1
    then
    (if keeps s.clears_channels h.clients h.names.ids || is_detached (channel_of_key (fold_name (parameter 0 (line.1))) h.channels)
    then at_channel (fold_name (parameter 0 (line.1))) (over (pushed line (here_in h.names (is_detached (channel_of_key (fold_name (parameter 0 (line.1))) h.channels))))) h.channels else h.channels)
    else h.channels

-- a line is stored in a query if it is for no known channel
abbrev pub queries_storing : Settings → Held → Option (ℕ × Parts) → List TargetLines
queries_storing s h None = h.queries
queries_storing s h (Some line) =
    if is_storable line.1 && not (is_some (channel_of_key (fold_name (parameter 0 (line.1))) h.channels)) && keeps s.clears_queries h.clients h.names.ids && is_query_line h.nick line.1
    then query_stored s.most_queries s.query_size (source line.1) line (here_of h.names) h.queries
    else h.queries

-- a line stored, if there is one
abbrev pub storing : Settings → Held → Option (ℕ × Parts) → Held
storing s h line = holding h.nick h.clients h.names (channels_storing s h line) (queries_storing s h line)

-- whether playing empties now what it plays: no client had a name
abbrev pub clears_now : Bool → Names → Bool
clears_now clears names = clears && not (is_some_of names.ids)

-- what was played to these readers: emptied, or seen by them
abbrev pub after_play : Bool → List Bool → TargetLines → TargetLines
after_play empties here t = if empties then cleared t else seen_all here t

-- the channel of a key that is detached, attached again and played to all who are attached
abbrev pub attached_again : Bool → Names → List ℕ → List ChannelLines → Option ChannelLines → List ChannelLines
attached_again clears names key cs found =
    if not (is_detached found)
    then cs
    else at_channel key (over (after_play (clears_now clears names) (here_of names))) (at_channel key (with_detached false) cs)

-- the channel of a key is removed if it is not joined
abbrev pub let_go : List ℕ → List ChannelLines → Option ChannelLines → List ChannelLines
let_go key cs found = if is_some found && not (is_joined found) then without_channel key cs else cs

-- what is held after a Reattach, or a Join of a detached channel: the channel of the name is attached again
abbrev pub reattached : Settings → List ℕ → Held → Held
reattached s name h = with_channels h (attached_again s.clears_channels h.names (fold_name name) h.channels (found name h))

-- what is held after a Part: the channel of the name is dropped where the own nick is not in it
abbrev pub parted : List ℕ → Held → Held
parted name h = with_channels h (let_go (fold_name name) h.channels (found name h))

-- what is held after a Detach: the channel of the name, if there is one, is detached
abbrev pub detached_now : List ℕ → Held → Held
detached_now name h = with_channels h (at_channel (fold_name name) (with_detached true) h.channels)

-- a reader alone, or none
abbrev pub reader_at : Option ℕ → List Bool
reader_at None = []
reader_at (Some i) = reader i

-- the reader of an attached origin, if it has a name
abbrev pub reader_of : Origin → Names → List Bool
reader_of o names = reader_at (index_of o names.holders)

-- the target of a key played to a client: emptied where playing empties it, and seen by the client's name, if it has
-- one
abbrev pub played_out : Settings → Origin → List ℕ → Held → Held
played_out s o key h =
    holding h.nick h.clients h.names (at_channel key (over (after_play (clears_now s.clears_channels h.names) (reader_of o h.names))) h.channels) (at_query key (after_play (clears_now s.clears_queries h.names) (reader_of o h.names)) h.queries)

-- the target of a key emptied, where playing empties it, whether or not names were given
abbrev pub played_emptied : Settings → List ℕ → Held → Held
played_emptied s key h =
    holding h.nick h.clients h.names (if s.clears_channels then at_channel key (over cleared) h.channels else h.channels) (if s.clears_queries then at_query key cleared h.queries else h.queries)

-- the target of a key, seen by these
abbrev pub played_seen : List Bool → List ℕ → Held → Held
played_seen here key h =
    holding h.nick h.clients h.names (at_channel key (over (seen_all here)) h.channels) (at_query key (seen_all here) h.queries)

-- the target of a key emptied
abbrev pub cleared_of : List ℕ → Held → Held
cleared_of key h = holding h.nick h.clients h.names (at_channel key (over cleared) h.channels) (at_query key cleared h.queries)

-- all channels, all queries, or both emptied
abbrev pub kinds_cleared : Bool → Bool → Held → Held
kinds_cleared channels queries h =
    holding h.nick h.clients h.names (if channels then map (over cleared) h.channels else h.channels) (if queries then map cleared h.queries else h.queries)

-- another size for the target of a key, unless it is past the limit
abbrev pub sized_unless_past : ℕ → List ℕ → Held → Held
sized_unless_past n key h =
    holding h.nick h.clients h.names (if not (is_past n) then at_channel key (over (resized n)) h.channels else h.channels) (if not (is_past n) then at_query key (resized n) h.queries else h.queries)

-- what is held after what a client says
abbrev pub after_saying : Settings → Held → ℕ → Verb → List ℕ → List ℕ → Held
after_saying s h at verb name text = storing s h (if is_channel name then Some (at, own_said h.nick verb name text) else None)

-- a line from upstream: a JOIN, PART or KICK of the own nick, or any other
abbrev pub channels_taking : Settings → Held → ℕ → Parts → List ChannelLines
channels_taking s h at line =
    if is_own (codes "JOIN") h.nick line
    then joined_by (parameter 0 line) s.channel_size h.channels
    else
    if is_own (codes "PART") h.nick line
    then without_channel (fold_name (parameter 0 line)) h.channels
    else
    if is_own_kick h.nick line then at_channel (fold_name (parameter 0 line)) (with_joined false) h.channels else channels_storing s h (Some (at, line))

-- what is held after a line from upstream
abbrev pub after_line : Settings → Held → ℕ → Parts → Held
after_line s h at line =
    holding (nick_after h.nick (Upstream at line)) h.clients h.names (channels_taking s h at line) (queries_storing s h (Some (at, line)))

-- what is held after a Leave
abbrev pub left : Origin → Held → Held
left o h =
    holding h.nick (filter (λ x. not (same_origin o x)) h.clients) (names_of h.names.ids (filter (λ x. not (same_origin o x.0)) h.names.holders)) h.channels h.queries

-- who stays when one more client attaches: all, or nobody where only one may be attached
abbrev pub with_room : Bool → Held → Held
with_room many h =
    holding h.nick (if many then h.clients else []) (if many then h.names else names_of h.names.ids []) h.channels h.queries

-- what was played to a client that attaches is emptied
abbrev pub shown_emptied : Settings → Held → Held
shown_emptied s h =
    holding h.nick h.clients h.names (if s.clears_channels then open_cleared h.channels else h.channels) (if s.clears_queries then map cleared h.queries else h.queries)

-- what was played to a client that attaches by a name has been seen by that name
abbrev pub shown_noted : Origin → List ℕ → Held → Held
shown_noted o id h =
    let here = reader (index_in id h.names.ids) in
    holding h.nick h.clients (with_holder o id h.names) (open_seen here h.channels) (map (seen_all here) h.queries)

-- a line kept in the channel of a key, and seen by the readers who are here, unless it is detached
abbrev pub kept_in : List ℕ → ℕ × Parts → Held → Held
kept_in key line h =
    holding h.nick h.clients h.names (at_channel key (over (pushed line (here_in h.names (is_detached (channel_of_key key h.channels))))) h.channels) h.queries

-- a line that is kept at the place of a key is kept in the channel of the key
abbrev pub IsKeptAt : Option ℕ → ℕ × Parts → Held → Held → Type 0
IsKeptAt place line h new = (key : List ℕ) → StandsAt key h.channels place → new ≡ kept_in key line h

-- whether an Attach empties now what it plays: no client had a name, and this one gives none
abbrev pub clears_attaching : Bool → Names → Option (List ℕ) → Bool
clears_attaching clears names id = clears_now clears names && not (is_some id)

-- the reader of a client that attaches, if it gives a name
abbrev pub reader_named : Option (List ℕ) → Names → List Bool
reader_named None names = []
reader_named (Some id) names = reader (index_in id names.ids)

-- the channels that are not detached, played to an attaching client
abbrev pub channels_played : Bool → List Bool → List ChannelLines → List ChannelLines
channels_played empties here cs = if empties then open_cleared cs else open_seen here cs

-- the channels after a command
abbrev pub channels_after : Settings → ℕ → Held → Command → List ChannelLines
channels_after s floor h (Client o at (Attach id)) =
    if taken_now floor h (Client o at (Attach id)) then channels_played (clears_attaching s.clears_channels h.names id) (reader_named id h.names) h.channels else h.channels
channels_after s floor h (Client o at Leave) = h.channels
channels_after s floor h (Client o at (Say verb name text)) = channels_storing s h (said h.clients h.nick (Client o at (Say verb name text)))
channels_after s floor h (Client o at (Join c)) =
    if is_among o h.clients then attached_again s.clears_channels h.names (fold_name c) h.channels (channel_of_key (fold_name c) h.channels) else h.channels
channels_after s floor h (Client o at (Part c)) =
    if is_among o h.clients then let_go (fold_name c) h.channels (channel_of_key (fold_name c) h.channels) else h.channels
channels_after s floor h (Client o at (Detach c)) = if is_among o h.clients then at_channel (fold_name c) (with_detached true) h.channels else h.channels
channels_after s floor h (Client o at (Reattach c)) =
    if is_among o h.clients then attached_again s.clears_channels h.names (fold_name c) h.channels (channel_of_key (fold_name c) h.channels) else h.channels
channels_after s floor h (Client o at (Play t)) =
    if is_among o h.clients
    then at_channel (fold_name t) (over (after_play (clears_now s.clears_channels h.names) (reader_of o h.names))) h.channels
    else h.channels
channels_after s floor h (Client o at (Clear t)) = if is_among o h.clients then at_channel (fold_name t) (over cleared) h.channels else h.channels
channels_after s floor h (Client o at ClearChannels) = if is_among o h.clients then map (over cleared) h.channels else h.channels
channels_after s floor h (Client o at ClearQueries) = h.channels
channels_after s floor h (Client o at ClearAll) = if is_among o h.clients then map (over cleared) h.channels else h.channels
channels_after s floor h (Client o at (SetBuffer t n)) =
    if is_among o h.clients && not (is_past n) then at_channel (fold_name t) (over (resized n)) h.channels else h.channels
channels_after s floor h (Client o at (Pass line)) = h.channels
channels_after s floor h (Upstream at line) = channels_taking s h at line
channels_after s floor h (NodeGone node boot) = h.channels
channels_after s floor h Up = h.channels
channels_after s floor h Down = map (with_joined false) h.channels

-- the queries after a command
abbrev pub queries_after : Settings → ℕ → Held → Command → List TargetLines
queries_after s floor h (Client o at (Attach id)) =
    if taken_now floor h (Client o at (Attach id))
    then map (after_play (clears_attaching s.clears_queries h.names id) (reader_named id h.names)) h.queries
    else h.queries
queries_after s floor h (Client o at Leave) = h.queries
queries_after s floor h (Client o at (Say verb name text)) = queries_storing s h (said h.clients h.nick (Client o at (Say verb name text)))
queries_after s floor h (Client o at (Join c)) = h.queries
queries_after s floor h (Client o at (Part c)) = h.queries
queries_after s floor h (Client o at (Detach c)) = h.queries
queries_after s floor h (Client o at (Reattach c)) = h.queries
queries_after s floor h (Client o at (Play t)) =
    if is_among o h.clients
    then at_query (fold_name t) (after_play (clears_now s.clears_queries h.names) (reader_of o h.names)) h.queries
    else h.queries
queries_after s floor h (Client o at (Clear t)) = if is_among o h.clients then at_query (fold_name t) cleared h.queries else h.queries
queries_after s floor h (Client o at ClearChannels) = h.queries
queries_after s floor h (Client o at ClearQueries) = if is_among o h.clients then map cleared h.queries else h.queries
queries_after s floor h (Client o at ClearAll) = if is_among o h.clients then map cleared h.queries else h.queries
queries_after s floor h (Client o at (SetBuffer t n)) =
    if is_among o h.clients && not (is_past n) then at_query (fold_name t) (resized n) h.queries else h.queries
queries_after s floor h (Client o at (Pass line)) = h.queries
queries_after s floor h (Upstream at line) = queries_storing s h (Some (at, line))
queries_after s floor h (NodeGone node boot) = h.queries
queries_after s floor h Up = h.queries
queries_after s floor h Down = h.queries

-- all that is held next, where this is the floor of the node of the command's client
abbrev pub after : Settings → ℕ → Held → Command → Held
after s floor h x =
    holding (nick_after h.nick x) (attached_after s.many_clients (taken_now floor h x) h.clients x) (names_after s.many_clients (taken_now floor h x) h.names x) (channels_after s floor h x) (queries_after s floor h x)

-- Before any command

-- what is held before any command
abbrev pub beginning : Settings → Held
beginning s =
    holding s.nick [] (names_of [] []) (map (λ c. channel (target c (ring [] s.channel_size) none_seen) false false) s.channels) []
