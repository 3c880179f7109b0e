-- What holds of the buffers after the commands that came. A history is the list of these commands, the newest first.
-- Each definition is a recursion of its own over the history: one step from what held before the newest command. A
-- target is identified by its key, a folded name.
use Rattle.std.specs.Prelude.{ℕ, Bool, false, not, ◌&&◌, ◌||◌, if◌then◌else◌, nat_lt, List, [], ◌∷◌, ◌++◌, Option, Some, None, filter, find, unwrap_or, codes}
use Rattle.irc_line.specs.Names.{fold_name, is_channel}
use Rattle.irc_line.specs.Keys.{at_key, is_in, put_in}
use Rattle.irc_line.specs.Lines.{Parts, parameter}
use Rattle.buffer_lines.specs.Keeping.{kept as kept_lines}
use Rattle.buffer_lines.specs.Stamps.{framed}
use Rattle.buffer_targets.specs.Targets.{newest}
use Rattle.wire_bytes.specs.declared.origin.Origin.{Origin}
use Rattle.buffer_commands.specs.Settings.{Settings}
use Rattle.buffer_commands.specs.declared.command.Action.TheVariants.{Attach, Say, Join, Part, Detach, Reattach, Play, Clear, ClearChannels, ClearQueries, ClearAll, SetBuffer}
use Rattle.buffer_commands.specs.declared.command.Command.{Command}
use Rattle.buffer_commands.specs.declared.command.Command.TheVariants.{Client, Upstream, Down}
use Rattle.buffer_machine.specs.Crowd.{attached, ids, is_naming, is_some_of, takes}
use Rattle.buffer_machine.specs.Messages.{is_among, is_none_of, is_storable, is_own, is_own_kick, is_new_nick, is_query_line, source, own_said}
use Rattle.buffer_commands.specs.Settings.{size_limit}

-- The own nick

-- the own nick after one more command
abbrev pub nick_after : List ℕ → Command → List ℕ
nick_after was (Upstream at line) = if is_new_nick was line then parameter 0 line else was
nick_after was _ = was

-- the setup's nick, until the server's welcome or a change of it
unfoldable pub nick : Settings → List Command → List ℕ
nick s [] = s.nick
nick s (x ∷ earlier) = nick_after (nick s earlier) x

-- Channels

-- a line by the own nick, with this command, that names the channel of this key
abbrev pub is_own_at : List ℕ → List ℕ → List ℕ → Parts → Bool
is_own_at word nick c line = is_own word nick line && at_key c (parameter 0 line)

-- JOIN by the own nick joins a channel; PART by it, a KICK of it and the end of the upstream leave one
abbrev pub joined_after : List ℕ → List ℕ → Bool → Command → Bool
joined_after nick c was (Upstream at line) =
    (was || is_own_at (codes "JOIN") nick c line) && not (is_own_at (codes "PART") nick c line) && not (is_own_kick nick line && at_key c (parameter 0 line))
joined_after nick c was Down = false
joined_after nick c was _ = was

-- whether the own nick is in a channel
unfoldable pub joined : Settings → List Command → List ℕ → Bool
joined s [] c = false
joined s (x ∷ earlier) c = joined_after (nick s earlier) c (joined s earlier c) x

-- whether a command removes the channel of this key, by what held before it
abbrev pub removes : List Origin → List ℕ → Bool → List ℕ → Command → Bool
removes attached nick joined c (Client o at (Part d)) = is_among o attached && at_key c d && not joined
removes attached nick joined c (Upstream at line) = is_own_at (codes "PART") nick c line
removes attached nick joined c _ = false

-- whether a command removes a channel, if it is known: a client's Part of one that is not joined, or PART by the own
-- nick
unfoldable pub is_removed : Settings → List Command → List ℕ → Command → Bool
is_removed s earlier c x = removes (attached s earlier) (nick s earlier) (joined s earlier c) c x

-- JOIN by the own nick makes a channel
abbrev pub made_by : List ℕ → Command → Option (List ℕ)
made_by nick (Upstream at line) = if is_own (codes "JOIN") nick line then Some (parameter 0 line) else None
made_by nick _ = None

-- one more name, if none has its key
abbrev pub with_made : Option (List ℕ) → List (List ℕ) → List (List ℕ)
with_made None names = names
with_made (Some c) names = if is_in (fold_name c) names then names else put_in c names

-- the channels that were made and not removed, by the names they were made with, in the order of their keys
unfoldable pub channels : Settings → List Command → List (List ℕ)
channels s [] = s.channels
channels s (x ∷ earlier) =
    filter (λ c. not (is_removed s earlier (fold_name c) x)) (with_made (made_by (nick s earlier) x) (channels s earlier))

-- whether a channel is detached after one more command
abbrev pub detached_after : List Origin → Bool → List ℕ → Bool → Command → Bool
detached_after attached known c was (Client o at (Detach d)) = was || (is_among o attached && known && at_key c d)
detached_after attached known c was (Client o at (Reattach d)) = was && not (is_among o attached && at_key c d)
detached_after attached known c was (Client o at (Join d)) = was && not (is_among o attached && at_key c d)
detached_after attached known c was _ = was

-- whether a channel is detached: shown to no client, and kept for later
unfoldable pub detached : Settings → List Command → List ℕ → Bool
detached s [] c = false
detached s (x ∷ earlier) c =
    detached_after (attached s earlier) (is_in c (channels s earlier)) c (detached s earlier c) x && not (is_removed s earlier c x)

-- What is stored

-- the line that a command says, with its moment
abbrev pub said : List Origin → List ℕ → Command → Option (ℕ × Parts)
said attached nick (Client o at (Say verb target text)) =
    if is_among o attached && is_channel target then Some (at, own_said nick verb target text) else None
said attached nick (Upstream at line) = Some (at, line)
said attached nick _ = None

-- the target that a line is for: a known channel, or the query of a sender who writes to the own nick
abbrev pub aim : List (List ℕ) → List ℕ → Parts → Option (List ℕ)
aim channels nick line =
    if not (is_storable line)
    then None
    else
    if is_in (fold_name (parameter 0 line)) channels
    then Some (parameter 0 line)
    else
    if is_query_line nick line then Some (source line) else None

-- whether this is the name of the target of this key
abbrev pub is_for : List ℕ → Option (List ℕ) → Bool
is_for t None = false
is_for t (Some name) = at_key t name

-- whether a target is emptied when it is played
abbrev pub clears : Settings → List ℕ → Bool
clears s t = if is_channel t then s.clears_channels else s.clears_queries

-- whether a target keeps what comes now: playing does not empty it, or nobody is attached, or some client had a name
abbrev pub keeps : Bool → List Origin → List (List ℕ) → Bool
keeps clears os ids = not clears || is_none_of os || is_some_of ids

-- a line, where the target keeps lines now and the line is for it
abbrev pub stored_where : Bool → List (List ℕ) → List ℕ → List ℕ → Option (ℕ × Parts) → Option (ℕ × Parts)
stored_where keeps channels nick t None = None
stored_where keeps channels nick t (Some line) = if keeps && is_for t (aim channels nick line.1) then Some line else None

-- the one line that a command adds to a target: where playing does not empty it, or nobody is attached, or some client had a name,
-- or it is detached
unfoldable pub stored : Settings → List ℕ → List Command → Command → Option (ℕ × Parts)
stored s t earlier x =
    let os = attached s earlier in
    let own = nick s earlier in
    stored_where (keeps (clears s t) os (ids s earlier) || (is_channel t && detached s earlier t)) (channels s earlier) own t (said os own x)

-- Queries

-- the query that a line is for
abbrev pub query_aim : List (List ℕ) → List ℕ → Option (ℕ × Parts) → Option (List ℕ)
query_aim channels nick None = None
query_aim channels nick (Some line) =
    if is_storable line.1 && not (is_in (fold_name (parameter 0 (line.1))) channels) && is_query_line nick line.1 then Some (source line.1) else None

-- the query that a command stores a line in
unfoldable pub stored_query : Settings → List Command → Command → Option (List ℕ)
stored_query s earlier x =
    let os = attached s earlier in
    let own = nick s earlier in
    if keeps s.clears_queries os (ids s earlier) then query_aim (channels s earlier) own (said os own x) else None

-- one more name at the end, if none has its key
abbrev pub with_new : Option (List ℕ) → List (List ℕ) → List (List ℕ)
with_new None names = names
with_new (Some c) names = if is_in (fold_name c) names then names else names ++ c ∷ []

-- the queries that were made, each by the first line stored in it, and not removed, in the order in which they were
-- made; past the most queries allowed, the one made first is removed
unfoldable pub queries : Settings → List Command → List (List ℕ)
queries s [] = []
queries s (x ∷ earlier) = newest s.most_queries (with_new (stored_query s earlier x) (queries s earlier))

-- Targets

-- the targets for which lines are kept
unfoldable pub targets : Settings → List Command → List (List ℕ)
targets s history = channels s history ++ queries s history

-- whether a target is a channel or a query for which lines are kept
unfoldable pub is_known : Settings → List Command → List ℕ → Bool
is_known s history t = is_in t (targets s history)

-- the name with which a target was made, or the key itself if there is none
unfoldable pub made_as : Settings → List Command → List ℕ → List ℕ
made_as s history t = unwrap_or (find (at_key t) (targets s history)) t

-- whether a command removes a query because it makes another for which there is no room
unfoldable pub is_pushed_out : Settings → List Command → List ℕ → Command → Bool
is_pushed_out s earlier t x = is_in t (queries s earlier) && not (is_in t (queries s (x ∷ earlier)))

-- whether a command removes a target
unfoldable pub removes_target : Settings → List Command → List ℕ → Command → Bool
removes_target s earlier t x = if is_channel t then is_removed s earlier t x else is_pushed_out s earlier t x

-- how many lines a target keeps when it is made
abbrev pub first_size : Settings → List ℕ → ℕ
first_size s t = if is_channel t then s.channel_size else s.query_size

-- a size that is not allowed
abbrev pub is_past : ℕ → Bool
is_past size = nat_lt size_limit size

-- how many lines a target keeps after one more command that does not remove it
abbrev pub size_after : List Origin → Bool → List ℕ → ℕ → Command → ℕ
size_after attached known t was (Client o at (SetBuffer u n)) =
    if is_among o attached && not (is_past n) && known && at_key t u then n else was
size_after attached known t was _ = was

-- how many lines a target keeps: the last size that was set since it was made
unfoldable pub size : Settings → List ℕ → List Command → ℕ
size s t [] = first_size s t
size s t (x ∷ earlier) =
    if removes_target s earlier t x then first_size s t else size_after (attached s earlier) (is_known s earlier t) t (size s t earlier) x

-- What is kept

-- whether a command plays a target to some client: an Attach that is taken, Reattach or Join of a detached channel, or
-- Play
abbrev pub plays : Bool → List Origin → Bool → List ℕ → Bool → Command → Bool
plays taken attached detached t known (Client o at (Attach id)) = taken && known && not detached
plays taken attached detached t known (Client o at (Reattach c)) = is_among o attached && known && detached && at_key t c
plays taken attached detached t known (Client o at (Join c)) = is_among o attached && known && detached && at_key t c
plays taken attached detached t known (Client o at (Play u)) = is_among o attached && known && at_key t u
plays taken attached detached t known _ = false

-- whether a command clears a target, whatever the setup says of playing
abbrev pub is_cleared : List Origin → Bool → List ℕ → Bool → Command → Bool
is_cleared attached channel t known (Client o at (Clear u)) = is_among o attached && known && at_key t u
is_cleared attached channel t known (Client o at ClearChannels) = is_among o attached && channel
is_cleared attached channel t known (Client o at ClearQueries) = is_among o attached && not channel
is_cleared attached channel t known (Client o at ClearAll) = is_among o attached
is_cleared attached channel t known _ = false

-- whether playing empties what it plays: no client had a name, and this command gives none
abbrev pub empties : List (List ℕ) → Command → Bool
empties ids x = not (is_some_of ids) && not (is_naming x)

-- whether a command empties a target: it clears it, or it plays it and playing empties it, or it removes it
unfoldable pub emptied : Settings → List ℕ → List Command → Command → Bool
emptied s t earlier x =
    let os = attached s earlier in
    is_cleared os (is_channel t) t (is_known s earlier t) x
    || (clears s t && empties (ids s earlier) x && plays (takes s earlier x) os (is_channel t && detached s earlier t) t (is_known s earlier t) x)
    || removes_target s earlier t x

-- the lines that a target keeps, the oldest first
unfoldable pub kept : Settings → List Command → List ℕ → List (ℕ × Parts)
kept s history t = kept_lines (stored s t) (emptied s t) (size s t) history

-- the kept lines with their times, between the frame lines, under the name with which the target was made
unfoldable pub playback : Settings → List Command → List ℕ → List Parts
playback s history t = if is_known s history t then framed s.offset (made_as s history t) (kept s history t) else []
