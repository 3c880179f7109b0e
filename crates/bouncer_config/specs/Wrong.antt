-- What is wrong with a table.
use Rattle.std.specs.Prelude.{◌≡◌, ◌<◌, ◌≤◌, ◌&&◌, ◌||◌, IsTrue, ℕ, ℤ, Bool, true, false, not, List, [], ◌∷◌, length, Option, Some, None, is_some, option_and_then, string_bytes, if◌then◌else◌}
use Rattle.std.specs.List.{list_any}
use Rattle.irc_line.specs.Names.{is_name, same_bytes}
use Rattle.toml.specs.Data.{Data, Items, Members, no_members, member, as_str, as_integer, as_bool, as_array, as_table}
use Rattle.raft_log.specs.Peers.{IsGroupSize}
use Rattle.buffer_commands.specs.Settings.{fault_of}
use Rattle.buffer_commands.specs.declared.options.Options.{Options}
use Rattle.buffer_commands.specs.declared.setup_fault.SetupFault.{SetupFault}
use Rattle.bouncer_config.specs.KeyTexts.{key_text, kind_of, limits_of}
use Rattle.bouncer_config.specs.Texts.{is_password, is_path, address_of, input_end_of, level_of}
use Rattle.bouncer_config.specs.Found.{value_at, within, above_least, item_count, ports_after, are_different, names_after, channels_in, AreOptions, text_at, are_apart, lines_after, pairs_after, paths_at, paths_in, serves}
use Rattle.bouncer_config.specs.declared.key.Key.{Key}
use Rattle.bouncer_config.specs.declared.key.Key.TheVariants.{Nick, Password, Upstream, UpstreamPassword, Listen, Store, Record, Channels, ChanBufferSize, QueryBufferSize, MaxQueryBuffers, OffsetMinutes, AutoClearChanBuffer, AutoClearQueryBuffer, MultiClients, BeatMs, TimeoutMs, FloodBurst, FloodMs, Log, Input, RenewAt, ChannelKeys, OnConnect}
use Rattle.bouncer_config.specs.declared.key.Kind.{Kind}
use Rattle.bouncer_config.specs.declared.key.Kind.TheVariants.{Text, Texts, Paths, Pairs, Number, Truth}
use Rattle.buffer_commands.specs.Settings.{channel_limit}
use Rattle.bouncer_config.specs.declared.problem.Problem.{Problem}
use Rattle.bouncer_config.specs.declared.problem.Problem.TheVariants.{Memory, NotToml, Unknown, Missing, Kind as KindOf, Refused, ListenCount, ListenTwice, StoreCount, StoreTwice, ChannelCount, Setup}

-- every key
abbrev pub all_keys : List Key
all_keys = Nick ∷ Password ∷ Upstream ∷ UpstreamPassword ∷ Listen ∷ Store ∷ Record ∷ Channels ∷ ChanBufferSize ∷ QueryBufferSize ∷ MaxQueryBuffers ∷ OffsetMinutes ∷ AutoClearChanBuffer ∷ AutoClearQueryBuffer ∷ MultiClients ∷ BeatMs ∷ TimeoutMs ∷ FloodBurst ∷ FloodMs ∷ Log ∷ Input ∷ RenewAt ∷ ChannelKeys ∷ OnConnect ∷ []

-- some key has this name
abbrev pub is_known : List ℕ → Bool
is_known name = list_any (λ key. same_bytes name (key_text key)) all_keys

-- the first name in a table that no key has
abbrev pub first_unknown : Members → Option (List ℕ)
first_unknown no_members = None
first_unknown (member name d rest) = if is_known name then first_unknown rest else Some name

-- the keys that every configuration needs
abbrev pub is_needed : Key → Bool
is_needed Nick = true
is_needed Password = true
is_needed Upstream = true
is_needed Listen = true
is_needed Store = true
is_needed _ = false

-- a value is of this kind
abbrev pub has_kind : Kind → Data → Bool
has_kind Text d = is_some (as_str d)
has_kind Texts d = is_some (as_array d)
has_kind Paths d = is_some (as_str d) || is_some (as_array d)
has_kind Pairs d = is_some (as_table d)
has_kind Number d = is_some (as_integer d)
has_kind Truth d = is_some (as_bool d)

-- there is a value, and it fails a test
abbrev pub fails : {T : Type 0} → (T → Bool) → Option T → Bool
fails test None = false
fails test (Some x) = not (test x)

-- the texts that a key may have
abbrev pub text_rule : Key → List ℕ → Bool
text_rule Nick text = is_name text
text_rule Password text = is_password text
text_rule UpstreamPassword text = is_password text
text_rule Upstream text = is_some (address_of text)
text_rule Record text = is_path text
text_rule Log text = is_some (level_of text)
text_rule Input text = is_some (input_end_of text)
text_rule _ text = true

-- the numbers that a key may have
abbrev pub number_rule : Key → ℤ → Bool
number_rule OffsetMinutes z = is_some (above_least z)
number_rule key z = is_some (within (limits_of key) z)

-- the lists that a key may have
abbrev pub list_rule : Key → Items → Bool
list_rule Listen ds = is_some (ports_after [] ds)
list_rule Channels ds = is_some (names_after [] ds)
list_rule OnConnect ds = is_some (lines_after [] ds)
list_rule _ ds = true

-- the tables that a key may have
abbrev pub pairs_rule : Members → Bool
pairs_rule ms = is_some (pairs_after [] ms)

-- a value of a key's kind that the key may not have
abbrev pub breaks : Kind → Key → Data → Bool
breaks Text key d = fails (text_rule key) (as_str d)
breaks Texts key d = fails (list_rule key) (as_array d)
breaks Paths key d = has_kind Paths d && not (is_some (paths_in d))
breaks Pairs key d = fails pairs_rule (as_table d)
breaks Number key d = fails (number_rule key) (as_integer d)
breaks Truth key d = false

-- the list of a key
abbrev pub list_at : Key → Members → Option Items
list_at key table = option_and_then as_array (value_at key table)

-- the upstream server's port and those to listen at, if the table has them
pub record ArePorts (table : Members) (upstream : ℕ) (ports : List ℕ) : Type 0 where
  pub server : option_and_then address_of (text_at Upstream table) ≡ Some upstream
  pub listen : option_and_then (ports_after []) (list_at Listen table) ≡ Some ports

-- no more channels are listed than a setup may have
abbrev pub HasFewChannels : Members → Type 0
HasFewChannels table = (ds : Items) → list_at Channels table ≡ Some ds → item_count ds ≤ channel_limit

-- The channels and options that a table gives are those of no setup, though there are not too many channels.
pub record IsSetupFault (table : Members) (fault : SetupFault) : Type 0 where
  pub channels : List (List ℕ)
  pub options : Options
  pub few : HasFewChannels table
  pub named : channels_in (value_at Channels table) ≡ Some channels
  pub sized : AreOptions table options
  pub refused : fault_of channels options ≡ Some fault

-- nodes can listen at these ports: as many as a group has, all different, and none the upstream server's
pub record Listens (table : Members) (upstream : ℕ) (ports : List ℕ) : Type 0 where
  pub are : ArePorts table upstream ports
  pub group : IsGroupSize (length ports)
  pub different : are_different (upstream ∷ ports) ≡ true

-- two of the ports are the same
pub record IsTwice (table : Members) : Type 0 where
  pub upstream : ℕ
  pub ports : List ℕ
  pub are : ArePorts table upstream ports
  pub same : are_different (upstream ∷ ports) ≡ false

-- there is more than one folder, and not as many as addresses to listen at
pub record HasOtherCount (table : Members) : Type 0 where
  pub paths : List (List ℕ)
  pub nodes : Items
  pub store : paths_at Store table ≡ Some paths
  pub listen : list_at Listen table ≡ Some nodes
  pub other : serves (Some (item_count nodes)) (length paths) ≡ false

-- two of the folders are the same
pub record HasTwoAlike (table : Members) : Type 0 where
  pub paths : List (List ℕ)
  pub store : paths_at Store table ≡ Some paths
  pub same : are_apart paths ≡ false

-- this is wrong with a table
abbrev pub IsProblem : Members → Problem → Type 0
IsProblem table Memory = Unit {0}
IsProblem table NotToml = ⊥
IsProblem table (Unknown name) = first_unknown table ≡ Some (string_bytes name)
IsProblem table (Missing key) = IsTrue (is_needed key) × (value_at key table ≡ None)
IsProblem table (KindOf key) = (d : Data) × (value_at key table ≡ Some d) × (has_kind (kind_of key) d ≡ false)
IsProblem table (Refused key) = (d : Data) × (value_at key table ≡ Some d) × (breaks (kind_of key) key d ≡ true)
IsProblem table ListenCount = (ds : Items) × (list_at Listen table ≡ Some ds) × (¬ IsGroupSize (item_count ds))
IsProblem table ListenTwice = IsTwice table
IsProblem table StoreCount = HasOtherCount table
IsProblem table StoreTwice = HasTwoAlike table
IsProblem table ChannelCount = (ds : Items) × (list_at Channels table ≡ Some ds) × (channel_limit < item_count ds)
IsProblem table (Setup fault) = IsSetupFault table fault
