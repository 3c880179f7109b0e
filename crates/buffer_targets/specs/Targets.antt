-- What is held of a target: the name with which it was made, its last lines, and how many of them each reader has seen;
-- and what is done to one. Readers are numbered from 0; there are at most 64.
use Rattle.std.specs.Prelude.{◌≡◌, ℕ, suc, ◌-◌, replicate, slice_index, slice_set, ◌<◌, ◌≤◌, Bool, true, false, not, if◌then◌else◌, List, [], ◌∷◌, ◌++◌, length, drop, map, filter, find, Option, None, Some, option_map, refl}
use Rattle.std.specs.List.{list_any}
use Rattle.std.specs.Coded.{Coded, code_by, coded×, coded_list, coded_ℕ, coded_bool}
use Rattle.circular_buffer.specs.Buffer.{keep_last}
use Rattle.irc_line.specs.Keys.{at_key, is_below, is_in}
use Rattle.irc_line.specs.Names.{fold_name}
use Rattle.irc_line.specs.Lines.{Parts}
use Rattle.buffer_lines.specs.Stamps.{Ring, ring, ring_code}
use Rattle.buffer_targets.specs.Places.{IsPlace, IsGap, names_at}
use Rattle.buffer_targets.specs.declared.seen.TheConstants.{READERS}

-- a target: the name with which it was made, its last lines, and how many of them each reader has seen
pub record TargetLines : Type 0 where
  pub name : List ℕ
  pub lines : Ring
  pub seen : List ℕ

-- a target, of its three parts
abbrev pub target : List ℕ → Ring → List ℕ → TargetLines
target name lines seen = record { name = name; lines = lines; seen = seen }

-- how many readers there may be
abbrev pub readers : ℕ
readers = READERS

-- no reader has seen a line
abbrev pub none_seen : List ℕ
none_seen = replicate readers 0

-- how many lines one reader has seen, by whether it is here, if that is known
abbrev pub counted_one : ℕ → ℕ → Option Bool → ℕ → ℕ
counted_one all gone None n = n
counted_one all gone (Some true) n = all
counted_one all gone (Some false) n = n - gone

-- how many lines each has seen, if there are this many now and this many of the oldest were dropped: those who are here
-- see all
abbrev pub counted : ℕ → ℕ → List Bool → List ℕ → List ℕ
counted all gone [] seen = seen
counted all gone (h ∷ hs) [] = []
counted all gone (h ∷ hs) (n ∷ ns) = counted_one all gone (Some h) n ∷ counted all gone hs ns

-- this many of the oldest lines were dropped
abbrev pub fewer : ℕ → List ℕ → List ℕ
fewer gone seen = map (λ n. n - gone) seen

-- a target is stored as its three parts
abbrev pub target_code : Coded TargetLines
target_code =
    code_by (List ℕ × (Ring × List ℕ)) (coded× (coded_list coded_ℕ) (coded× ring_code (coded_list coded_ℕ))) (λ t. (t.name, (t.lines, t.seen)))
    (λ p. target p.0 p.1.0 p.1.1) (λ _. refl)

-- it keeps nothing now, and as many lines as before from now on
abbrev pub cleared : TargetLines → TargetLines
cleared t = target t.name (ring [] t.lines.size) none_seen

-- it keeps at most this many lines from now on
abbrev pub resized : ℕ → TargetLines → TargetLines
resized n t = target t.name (ring (keep_last n t.lines.lines) n) (fewer (length t.lines.lines - n) t.seen)

-- one more line in a ring, with its moment
abbrev pub ring_pushed : ℕ × Parts → Ring → Ring
ring_pushed line r = ring (keep_last r.size (r.lines ++ line ∷ [])) r.size

-- one more line came, with its moment, and these readers are here
abbrev pub pushed : ℕ × Parts → List Bool → TargetLines → TargetLines
pushed line here t =
    target t.name (ring_pushed line t.lines)
    (counted (length (ring_pushed line t.lines).lines) (suc (length t.lines.lines) - length (ring_pushed line t.lines).lines) here t.seen)

-- these readers have seen all lines that are kept
abbrev pub seen_all : List Bool → TargetLines → TargetLines
seen_all here t = target t.name t.lines (counted (length t.lines.lines) 0 here t.seen)

-- one reader alone, out of all possible ones
abbrev pub reader : ℕ → List Bool
reader i = slice_set (replicate readers false) i true

-- the lines that a reader has not seen
abbrev pub unseen_of : ℕ → TargetLines → List (ℕ × Parts)
unseen_of i t = drop (slice_index t.seen i) t.lines.lines

-- the target that is found, if any, keeps at least this many lines
abbrev pub KeepsSoMany : ℕ → Option TargetLines → Type 0
KeepsSoMany size None = Unit {0}
KeepsSoMany size (Some t) = size ≤ t.lines.size

-- Channels, in rising order of their keys

-- a channel's target, whether the own nick is in the channel, and whether clients are shown nothing of it
pub record ChannelLines : Type 0 where
  pub target : TargetLines
  pub joined : Bool
  pub detached : Bool

-- a channel, of its three parts
abbrev pub channel : TargetLines → Bool → Bool → ChannelLines
channel target joined detached = record { target = target; joined = joined; detached = detached }

-- a channel is stored as its three parts
abbrev pub channel_code : Coded ChannelLines
channel_code = code_by (TargetLines × (Bool × Bool)) (coded× target_code (coded× coded_bool coded_bool)) (λ c. (c.target, (c.joined, c.detached))) (λ p. channel p.0 p.1.0 p.1.1) (λ _. refl)

-- a change of a channel's target
abbrev pub over : (TargetLines → TargetLines) → ChannelLines → ChannelLines
over f c = channel (f c.target) c.joined c.detached

-- the own nick is in the channel from now on, or is not
abbrev pub with_joined : Bool → ChannelLines → ChannelLines
with_joined joined c = channel c.target joined c.detached

-- the channel is no longer shown to clients, or is shown again
abbrev pub with_detached : Bool → ChannelLines → ChannelLines
with_detached detached c = channel c.target c.joined detached

-- a channel has this key
abbrev pub has_key : List ℕ → ChannelLines → Bool
has_key key c = at_key key c.target.name

-- a change of the channel with a key, and of no other
abbrev pub at_channel : List ℕ → (ChannelLines → ChannelLines) → List ChannelLines → List ChannelLines
at_channel key f cs = map (λ c. if has_key key c then f c else c) cs

-- the channel of a key
abbrev pub channel_of_key : List ℕ → List ChannelLines → Option ChannelLines
channel_of_key key cs = find (has_key key) cs

-- the channel of a key, if any, keeps at least this many lines
abbrev pub ChannelKeeps : List ℕ → ℕ → List ChannelLines → Type 0
ChannelKeeps key size cs = KeepsSoMany size (option_map (λ c. c.target) (channel_of_key key cs))

-- the channels' names
abbrev pub channel_names : List ChannelLines → List (List ℕ)
channel_names cs = map (λ c. c.target.name) cs

-- the channel of a key is at this place, or there is none
abbrev pub StandsAt : List ℕ → List ChannelLines → Option ℕ → Type 0
StandsAt key cs None = is_in key (channel_names cs) ≡ false
StandsAt key cs (Some at) = IsPlace key (channel_names cs) at

-- what is at the place of a key is what is found under the key
abbrev pub IsChannelAt : List ChannelLines → Option ℕ → Option ChannelLines → Type 0
IsChannelAt cs place found = (key : List ℕ) → StandsAt key cs place → found ≡ channel_of_key key cs

-- a line stored at the place of a key is stored in the channel of the key
abbrev pub IsStoredAt : Option ℕ → ℕ × Parts → List Bool → List ChannelLines → List ChannelLines → Type 0
IsStoredAt place line here cs new = (key : List ℕ) → StandsAt key cs place → new ≡ at_channel key (over (pushed line here)) cs

-- some channel has this key
abbrev pub has_channel : List ℕ → List ChannelLines → Bool
has_channel key cs = list_any (has_key key) cs

-- another size for the channel of a key
abbrev pub channel_resized : List ℕ → ℕ → List ChannelLines → List ChannelLines
channel_resized key size cs = at_channel key (over (resized size)) cs

-- channels of these names that are shown to clients and that the own nick is not in, each of this size and empty
abbrev pub unjoined : ℕ → List (List ℕ) → List ChannelLines
unjoined size names = map (λ c. channel (target c (ring [] size) none_seen) false false) names

-- a channel inserted where its key belongs
abbrev pub put_channel : ChannelLines → List ChannelLines → List ChannelLines
put_channel c [] = c ∷ []
put_channel c (d ∷ ds) = if is_below (fold_name d.target.name) (fold_name c.target.name) then d ∷ put_channel c ds else c ∷ d ∷ ds

-- a channel that is joined is made if none has its key
abbrev pub joined_by : List ℕ → ℕ → List ChannelLines → List ChannelLines
joined_by name size cs =
    if list_any (has_key (fold_name name)) cs
    then at_channel (fold_name name) (with_joined true) cs
    else put_channel (channel (target name (ring [] size) none_seen) true false) cs

-- the channel of a key is removed with all that it has
abbrev pub without_channel : List ℕ → List ChannelLines → List ChannelLines
without_channel key cs = filter (λ c. not (has_key key c)) cs

-- the channels that clients are shown are emptied
abbrev pub open_cleared : List ChannelLines → List ChannelLines
open_cleared cs = map (λ c. if c.detached then c else over cleared c) cs

-- these readers have seen all lines of the channels that clients are shown
abbrev pub open_seen : List Bool → List ChannelLines → List ChannelLines
open_seen here cs = map (λ c. if c.detached then c else over (seen_all here) c) cs

-- Queries, in the order in which they were made

-- a query has this key
abbrev pub has_name_key : List ℕ → TargetLines → Bool
has_name_key key t = at_key key t.name

-- a change of the query with a key, and of no other
abbrev pub at_query : List ℕ → (TargetLines → TargetLines) → List TargetLines → List TargetLines
at_query key f ts = map (λ t. if has_name_key key t then f t else t) ts

-- the query of a key
abbrev pub query_of_key : List ℕ → List TargetLines → Option TargetLines
query_of_key key ts = find (has_name_key key) ts

-- the query of a key, if any, keeps at least this many lines
abbrev pub QueryKeeps : List ℕ → ℕ → List TargetLines → Type 0
QueryKeeps key size ts = KeepsSoMany size (query_of_key key ts)

-- the queries' names
abbrev pub query_names : List TargetLines → List (List ℕ)
query_names ts = map (λ t. t.name) ts

-- some query has this key
abbrev pub has_query : List ℕ → List TargetLines → Bool
has_query key ts = list_any (has_name_key key) ts

-- another size for the query of a key
abbrev pub query_resized : List ℕ → ℕ → List TargetLines → List TargetLines
query_resized key size ts = at_query key (resized size) ts

-- the queries' names in the order of an index
abbrev pub indexed : List TargetLines → List ℕ → List (List ℕ)
indexed ts places = names_at (query_names ts) places

-- the place of a key's query among the queries
abbrev pub IsQueryPlace : List ℕ → List TargetLines → ℕ → Type 0
IsQueryPlace key ts place = (place < length ts) × IsPlace key (query_names ts) place

-- no query has the key; its place in the index would be here
abbrev pub IsQueryGap : List ℕ → List TargetLines → List ℕ → ℕ → Type 0
IsQueryGap key ts places gap = (gap ≤ length places) × IsGap key (indexed ts places) gap × (is_in key (query_names ts) ≡ false)

-- the last items of a list, at most this many
abbrev pub newest : {A : Type 0} → ℕ → List A → List A
newest n xs = drop (length xs - n) xs

-- a line stored in the query of a name, which is made with this size if there is none; past the most queries allowed,
-- the one made first is dropped
abbrev pub query_stored : ℕ → ℕ → List ℕ → ℕ × Parts → List Bool → List TargetLines → List TargetLines
query_stored most size name line here ts =
    if list_any (has_name_key (fold_name name)) ts
    then at_query (fold_name name) (pushed line here) ts
    else newest most (ts ++ pushed line here (target name (ring [] size) none_seen) ∷ [])
