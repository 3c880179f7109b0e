-- The setup of a bouncer.
use Rattle.std.specs.Prelude.{◌≡◌, ◌≤◌, IsTrue, Result, MatchResult, ℕ, ◌+◌, Bool, true, ◌&&◌, ◌||◌, if◌then◌else◌, nat_le, nat_lt, List, [], ◌∷◌, length, Option, Some, None, codes}
use Rattle.std.specs.List.{list_all}
use Rattle.irc_line.specs.Names.{is_channel}
use Rattle.irc_line.specs.Keys.{is_below_all, are_rising}
use Rattle.buffer_commands.specs.declared.options.Options.{Options}
use Rattle.buffer_commands.specs.declared.setup_fault.SetupFault.{SetupFault}
use Rattle.buffer_commands.specs.declared.setup_fault.SetupFault.TheVariants.{TooManyChannels, NotAChannel, NotRising, ChannelSize, QuerySize, MostQueries}
use Rattle.buffer_commands.specs.declared.setup.TheConstants.{MOST_CHANNELS, MOST_LINES, MOST_QUERIES}

-- a setup as clauses see it
pub record Settings : Type 0 where
  pub nick : List ℕ
  -- the channels that exist from the start, in rising order of folded name
  pub channels : List (List ℕ)
  pub channel_size : ℕ
  pub query_size : ℕ
  pub most_queries : ℕ
  -- whether playing a channel, or a query, empties it
  pub clears_channels : Bool
  pub clears_queries : Bool
  pub many_clients : Bool
  -- in minutes, with 1,439 added
  pub offset : ℕ

-- 50 lines each, 50 queries, all options on, and no offset
abbrev pub default_options : Options
default_options =
    record {
      channel_size = 50;
      query_size = 50;
      most_queries = 50;
      clears_channels = true;
      clears_queries = true;
      many_clients = true;
      offset = 1439;
    }

-- this nick, these channels, and everything else from the options
abbrev pub settings_of : List ℕ → List (List ℕ) → Options → Settings
settings_of nick channels options =
    record {
      nick = nick;
      channels = channels;
      channel_size = options.channel_size;
      query_size = options.query_size;
      most_queries = options.most_queries;
      clears_channels = options.clears_channels;
      clears_queries = options.clears_queries;
      many_clients = options.many_clients;
      offset = options.offset;
    }

-- the nick `me`, the channel `#x`, and the defaults
abbrev pub plain : Settings
plain = settings_of (codes "me") (codes "#x" ∷ []) default_options

-- how many channels a setup names at most
abbrev pub channel_limit : ℕ
channel_limit = MOST_CHANNELS

-- how many lines a channel or a query keeps at most
abbrev pub size_limit : ℕ
size_limit = MOST_LINES

-- how many queries are kept at most
abbrev pub query_limit : ℕ
query_limit = MOST_QUERIES

-- what holds of the channels and the sizes of every setup
pub record KeepsLimits (channels : List (List ℕ)) (options : Options) : Type 0 where
  pub rising : IsTrue (are_rising channels)
  pub named : IsTrue (list_all is_channel channels)
  pub few : length channels ≤ channel_limit
  pub channel_size : options.channel_size ≤ size_limit
  pub query_size : options.query_size ≤ size_limit
  pub some_queries : 1 ≤ options.most_queries
  pub few_queries : options.most_queries ≤ query_limit

-- nothing was wrong, or this is what was wrong first
abbrev pub Refuses : Result (Unit {0}) SetupFault → Option SetupFault → Type 0
Refuses result fault = MatchResult result (λ _. fault ≡ None) (λ e. fault ≡ Some e)

-- what is wrong with this many channels
abbrev pub count_fault : ℕ → Option SetupFault
count_fault count = if nat_lt channel_limit count then Some TooManyChannels else None

-- not too many names, each a channel's name, each before the next one in the order of folded names
abbrev pub are_channels : List (List ℕ) → Bool
are_channels channels = nat_le (length channels) channel_limit && (list_all is_channel channels && are_rising channels)

-- neither a channel nor a query keeps more lines than allowed, and there are at least one query and not too many
abbrev pub are_sizes : Options → Bool
are_sizes options = nat_le options.channel_size size_limit && (nat_le options.query_size size_limit && (nat_le 1 options.most_queries && nat_le options.most_queries query_limit))

-- all limits hold
abbrev pub within_limits : List (List ℕ) → Options → Bool
within_limits channels options = are_channels channels && are_sizes options

-- the first fault of names of which the first is at this place: a name that is no channel's, or one that does not come
-- after the name before it
abbrev pub order_fault : ℕ → List (List ℕ) → Option SetupFault
order_fault place [] = None
order_fault place (c ∷ cs) = if is_channel c then (if is_below_all c cs then order_fault (place + 1) cs else Some (NotRising (place + 1))) else Some (NotAChannel place)

-- the first fault of the sizes
abbrev pub size_fault : Options → Option SetupFault
size_fault options =
    if nat_lt size_limit options.channel_size
    then Some ChannelSize
    else (if nat_lt size_limit options.query_size then Some QuerySize else (if nat_lt options.most_queries 1 || nat_lt query_limit options.most_queries then Some MostQueries else None))

-- the first fault, or the second if there is no first
abbrev pub first_fault : Option SetupFault → Option SetupFault → Option SetupFault
first_fault (Some fault) other = Some fault
first_fault None other = other

-- the first fault: of the number of channels, then of the channels one by one, then of the sizes
abbrev pub fault_of : List (List ℕ) → Options → Option SetupFault
fault_of channels options = if nat_lt channel_limit (length channels) then Some TooManyChannels else first_fault (order_fault 0 channels) (size_fault options)
