-- Setups as bytes.
use Rattle.std.specs.Prelude.{◌≡◌, ℕ, zero, suc, ◌-◌, ◌≤◌, slice_get, Bool, true, IsTrue, List, [], ◌∷◌, ◌++◌, length, Option, Some, None}
use Rattle.std.specs.Int.{w16, to_be_bytes}
use Rattle.irc_line.specs.Keys.{is_below}
use Rattle.irc_line.specs.Names.{fold_name, is_name}
use Rattle.wire_bytes.specs.Fields.{Reading, ◌>>=◌, both, byte_within, done, number_to, only, through, truth, truth_byte}
use Rattle.wire_bytes.specs.Contents.{name, sized}
use Rattle.buffer_commands.specs.Settings.{Settings, are_channels, settings_of}
use Rattle.buffer_commands.specs.declared.options.Options.{Options}
use Rattle.buffer_commands.specs.Spellings.{channel_name}
use Rattle.buffer_commands.specs.Settings.{channel_limit, query_limit, size_limit}

-- The channels: their number in one byte, at most 100, and their names

-- this name comes after the one before it, if there is one, in the order of folded names
abbrev pub is_after : Option (List ℕ) → List ℕ → Bool
is_after None c = true
is_after (Some before) c = is_below (fold_name before) (fold_name c)

-- the last of some names, if there is one
abbrev pub last_of : List (List ℕ) → Option (List ℕ)
last_of names = slice_get names (length names - 1)

-- a channel's name that comes after the one before it; another name is refused as that field
unfoldable pub channel_after : Option (List ℕ) → Reading (List ℕ)
channel_after before = only (is_after before) channel_name

-- this many channels, each after the one before it
abbrev pub channels_after : ℕ → Option (List ℕ) → Reading (List (List ℕ))
channels_after zero before = done []
channels_after (suc n) before = channel_after before >>= λ c. through (λ cs. c ∷ cs) (channels_after n (Some c))

-- the channels at the front of an input: their number, and that many names, in rising order of folded name
unfoldable pub channels : Reading (List (List ℕ))
channels = byte_within 0 channel_limit >>= λ n. channels_after n None

-- names as bytes, one after the other, each after its length
abbrev pub spelled_names : List (List ℕ) → List ℕ
spelled_names [] = []
spelled_names (n ∷ names) = sized n ++ spelled_names names

-- channels as bytes: how many there are, and their names
unfoldable pub spelled_channels : List (List ℕ) → List ℕ
spelled_channels names = length names ∷ spelled_names names

-- The numbers

-- a number in two bytes
unfoldable pub spelled_short : ℕ → List ℕ
spelled_short n = to_be_bytes w16 n

-- how many lines a target keeps, in two bytes: at most 500
unfoldable pub line_count : Reading ℕ
line_count = number_to w16 size_limit

-- how many queries are kept at most, in one byte: 1 to 50
abbrev pub query_count : Reading ℕ
query_count = byte_within 1 query_limit

-- how far the times of played lines are ahead of UTC, in two bytes: the minutes and 1,439, at most 2,878
unfoldable pub offset_minutes : Reading ℕ
offset_minutes = number_to w16 2878

-- lines of a channel and of a query, queries, whether playing empties channels and queries and whether many clients may
-- be attached, offset
abbrev pub OptionFields : Type 0
OptionFields = (((((ℕ × ℕ) × ℕ) × Bool) × Bool) × Bool) × ℕ

-- the options at the front of an input, field by field
abbrev pub options_taken : Reading OptionFields
options_taken = both (both (both (both (both (both line_count line_count) query_count) truth) truth) truth) offset_minutes

-- options as bytes: two bytes for each number of lines and for the offset, one for each other field
abbrev pub spelled_options : OptionFields → List ℕ
spelled_options o = (((((spelled_short o.0.0.0.0.0.0 ++ spelled_short o.0.0.0.0.0.1) ++ o.0.0.0.0.1 ∷ []) ++ truth_byte o.0.0.0.1 ∷ []) ++ truth_byte o.0.0.1 ∷ []) ++ truth_byte o.0.1 ∷ []) ++ spelled_short o.1

-- options within their limits: at most 500 lines, 1 to 50 queries, an offset of at most 2,878
abbrev pub FitOptions : OptionFields → Type 0
FitOptions o = ((((((o.0.0.0.0.0.0 ≤ size_limit) × (o.0.0.0.0.0.1 ≤ size_limit)) × ((1 ≤ o.0.0.0.0.1) × (o.0.0.0.0.1 ≤ query_limit))) × Unit {0}) × Unit {0}) × Unit {0}) × (o.1 ≤ 2878)

-- Setups

-- these parts in their order
abbrev pub SetupFields : Type 0
SetupFields = (List ℕ × List (List ℕ)) × OptionFields

-- the settings that have these fields
abbrev pub settings : SetupFields → Settings
settings p =
    record {
      nick = p.0.0;
      channels = p.0.1;
      channel_size = p.1.0.0.0.0.0.0;
      query_size = p.1.0.0.0.0.0.1;
      most_queries = p.1.0.0.0.0.1;
      clears_channels = p.1.0.0.0.1;
      clears_queries = p.1.0.0.1;
      many_clients = p.1.0.1;
      offset = p.1.1;
    }

-- the options of these settings, in the order of their bytes
abbrev pub options_in : Settings → OptionFields
options_in s = ((((((s.channel_size, s.query_size), s.most_queries), s.clears_channels), s.clears_queries), s.many_clients), s.offset)

-- these are the options that are spelled so
abbrev pub AreOptionsOf : OptionFields → Options → Type 0
AreOptionsOf fields options = (nick : List ℕ) (names : List (List ℕ)) → settings_of nick names options ≡ settings ((nick, names), fields)

-- the nick and the channels
abbrev pub spelled_named : Settings → List ℕ
spelled_named s = sized s.nick ++ spelled_channels s.channels

-- the nick, the channels, and the options
unfoldable pub spelled_setup : Settings → List ℕ
spelled_setup s = spelled_named s ++ spelled_options (options_in s)

-- what every setup keeps
abbrev pub FitsSetup : Settings → Type 0
FitsSetup s = (IsTrue (is_name s.nick) × IsTrue (are_channels s.channels)) × FitOptions (options_in s)

-- the setup at the front of an input
unfoldable pub setup_taken : Reading Settings
setup_taken = through settings (both (both name channels) options_taken)
