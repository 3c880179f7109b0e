-- What is held under a new setup, given what was held under an old one. Names and channels are identified by their
-- keys, which are folded names.
use Rattle.std.specs.Prelude.{ℕ, zero, suc, Bool, true, false, not, ◌&&◌, ◌||◌, ◌==◌, if◌then◌else◌, List, [], ◌∷◌, ◌++◌, map, filter, replicate}
use Rattle.irc_line.specs.Names.{fold_name}
use Rattle.irc_line.specs.Keys.{is_below, is_in}
use Rattle.buffer_targets.specs.Targets.{ChannelLines, TargetLines, channel, has_channel, newest, resized, target, unjoined}
use Rattle.buffer_commands.specs.Settings.{Settings}
use Rattle.buffer_machine.specs.Crowd.{id_limit, is_id_in}
use Rattle.buffer_machine.specs.Held.{Held, holding, names_of}

-- Names of clients

-- for each name, whether it is forgotten
abbrev pub goes : List (List ℕ) → List (List ℕ) → List Bool
goes forgotten ids = map (λ id. is_id_in id forgotten) ids

-- what stays of a list, given for each item whether it goes
abbrev pub staying : {A : Type 0} → List Bool → List A → List A
staying [] xs = []
staying (g ∷ gs) [] = []
staying (true ∷ gs) (x ∷ xs) = staying gs xs
staying (false ∷ gs) (x ∷ xs) = x ∷ staying gs xs

-- this many numbers: these, and then 0
abbrev pub filled : ℕ → List ℕ → List ℕ
filled count [] = replicate count 0
filled zero (n ∷ ns) = []
filled (suc more) (n ∷ ns) = n ∷ filled more ns

-- how many lines each name has seen, without the names that go
abbrev pub seen_moved : List Bool → List ℕ → List ℕ
seen_moved gone seen = filled id_limit (staying gone seen)

-- Targets

-- a size: that of the old setup becomes that of the new one, any other stays
abbrev pub size_moved : ℕ → ℕ → ℕ → ℕ
size_moved old new n = if n == old then new else n

-- a target, with how many of its lines the names that stay have seen
abbrev pub with_seen : List Bool → TargetLines → TargetLines
with_seen gone t = target t.name t.lines (seen_moved gone t.seen)

-- a target with its new size, which keeps the newest of its lines
abbrev pub target_moved : ℕ → ℕ → List Bool → TargetLines → TargetLines
target_moved old new gone t = with_seen gone (resized (size_moved old new t.lines.size) t)

-- a channel that the own nick is not in, whose name and detachment stay
abbrev pub channel_moved : ℕ → ℕ → List Bool → ChannelLines → ChannelLines
channel_moved old new gone c = channel (target_moved old new gone c.target) false c.detached

-- Channels

-- the key of a channel
abbrev pub key_of : ChannelLines → List ℕ
key_of c = fold_name c.target.name

-- a channel stays, unless the old setup names it, the new one doesn't, and the own nick was not in it
abbrev pub is_staying : Settings → Settings → (List ℕ → Bool) → ChannelLines → Bool
is_staying s t was c = not (is_in (key_of c) s.channels) || (is_in (key_of c) t.channels || was (key_of c))

-- the channels that the new setup names, the old one doesn't, and that do not exist
abbrev pub is_added : Settings → List ChannelLines → List ℕ → Bool
is_added s cs name = not (is_in (fold_name name) s.channels) && not (has_channel (fold_name name) cs)

abbrev pub added : Settings → Settings → List ChannelLines → List (List ℕ)
added s t cs = filter (is_added s cs) t.channels

-- the names at the front of a list that come before a key, and the others
abbrev pub before : List ℕ → List (List ℕ) → List (List ℕ)
before key [] = []
before key (n ∷ ns) = if is_below (fold_name n) key then n ∷ before key ns else []

abbrev pub not_before : List ℕ → List (List ℕ) → List (List ℕ)
not_before key [] = []
not_before key (n ∷ ns) = if is_below (fold_name n) key then not_before key ns else n ∷ ns

-- the first of these names comes before a key
abbrev pub comes_before : List ℕ → List (List ℕ) → Bool
comes_before key [] = false
comes_before key (n ∷ ns) = is_below (fold_name n) key

-- channels, and before each of them the new ones whose names come before it, each of this size and empty: in rising
-- order of their keys, if both lists are
abbrev pub merged : ℕ → List (List ℕ) → List ChannelLines → List ChannelLines
merged size names [] = unjoined size names
merged size names (c ∷ cs) = unjoined size (before (key_of c) names) ++ c ∷ merged size (not_before (key_of c) names) cs

-- the channels that stay and the new ones
abbrev pub channels_moved : Settings → Settings → List Bool → (List ℕ → Bool) → List ChannelLines → List ChannelLines
channels_moved s t gone was cs =
    merged t.channel_size (added s t cs) (map (channel_moved s.channel_size t.channel_size gone) (filter (is_staying s t was) cs))

-- Queries

-- past the most queries allowed, the ones made first are dropped
abbrev pub queries_moved : Settings → Settings → List Bool → List TargetLines → List TargetLines
queries_moved s t gone ts = map (target_moved s.query_size t.query_size gone) (newest t.most_queries ts)

-- All of it, given the old setup and the new one, the names of clients that are forgotten, and whether the own nick was
-- in the channel of a key when a session was last in force: the own nick stays, nobody is attached, and no channel is
-- joined
abbrev pub moved : Settings → Settings → List (List ℕ) → (List ℕ → Bool) → Held → Held
moved s t forgotten was h =
    let gone = goes forgotten h.names.ids in
    holding h.nick [] (names_of (staying gone h.names.ids) []) (channels_moved s t gone was h.channels) (queries_moved s t gone h.queries)
