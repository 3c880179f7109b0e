-- All that is wrong with a table, which is reported at once.
use Rattle.std.specs.Prelude.{◌≡◌, ◌-◌, ◌^◌, ℕ, ℤ, Bool, false, ◌||◌, ◌==◌, ◌⊎◌, nat_lt, if◌then◌else◌, List, [], ◌∷◌, ◌++◌, length, map, Option, Some, None, IfSome, option_map, option_and_then, string_bytes}
use Rattle.std.specs.List.{AllByRecursion, Contains, filter_map}
use Rattle.std.specs.List.Sorted.{IsNonDecreasingBy, IsPermutation}
use Rattle.toml.specs.Data.{Data, Items, Members, no_members, member, as_str, as_integer, as_bool, as_array, as_table}
use Rattle.buffer_commands.specs.Settings.{channel_limit, default_options, fault_of}
use Rattle.buffer_commands.specs.declared.setup_fault.SetupFault.{SetupFault}
use Rattle.bouncer_config.specs.KeyTexts.{kind_of}
use Rattle.bouncer_config.specs.Texts.{address_of}
use Rattle.bouncer_config.specs.Found.{value_at, item_count, ports_after, are_apart, are_different, lines_after, names_after, channels_in, pairs_after, paths_in, serves, text_at}
use Rattle.bouncer_config.specs.Wrong.{HasFewChannels, IsProblem, all_keys, has_kind, is_known, is_needed, list_at, number_rule, text_rule}
use Rattle.bouncer_config.specs.declared.key.Key.{Key}
use Rattle.bouncer_config.specs.declared.judging.Around.{Around}
use Rattle.bouncer_config.specs.declared.key.Key.TheVariants.{Upstream, Listen, Channels, ChannelKeys, OnConnect, Store}
use Rattle.bouncer_config.specs.declared.key.Kind.{Kind}
use Rattle.bouncer_config.specs.declared.key.Kind.TheVariants.{Text, Texts, Paths, Pairs, Number, Truth}
use Rattle.bouncer_config.specs.declared.key_fault.KeyFault.{KeyFault}
use Rattle.bouncer_config.specs.declared.problem.Problem.{Problem}
use Rattle.bouncer_config.specs.declared.problem.Problem.TheVariants.{Unknown, Missing, Kind as KindOf, Refused, ListenCount, ListenTwice, StoreCount, StoreTwice, ChannelCount, Setup}

-- the names in a table that no key has
abbrev pub unknown_names : Members → List (List ℕ)
unknown_names no_members = []
unknown_names (member name d rest) =
    if is_known name then unknown_names rest else name ∷ unknown_names rest

-- what is wrong with what may be a text
abbrev pub wrong_text : Key → Option (List ℕ) → Option Problem
wrong_text key None = Some (KindOf key)
wrong_text key (Some text) = if text_rule key text then None else Some (Refused key)

-- what is wrong with what may be a number
abbrev pub wrong_number : Key → Option ℤ → Option Problem
wrong_number key None = Some (KindOf key)
wrong_number key (Some z) = if number_rule key z then None else Some (Refused key)

-- what is wrong with what may be a truth value
abbrev pub wrong_truth : Key → Option Bool → Option Problem
wrong_truth key None = Some (KindOf key)
wrong_truth key (Some b) = None

-- a group may have this many nodes
abbrev pub is_group : ℕ → Bool
is_group n = n == 3 || (n == 5 || n == 7)

-- ports, after that of the upstream server if it is known
abbrev pub beside : Option ℕ → List ℕ → List ℕ
beside None ports = ports
beside (Some server) ports = server ∷ ports

-- what is wrong with ports to listen at, once each address is one
abbrev pub wrong_ports : Option ℕ → Option (List ℕ) → Option Problem
wrong_ports server None = Some (Refused Listen)
wrong_ports server (Some ports) =
    if are_different (beside server ports) then None else Some ListenTwice

-- what is wrong with the addresses to listen at: their number, then one of them, then two that are
-- the same
abbrev pub wrong_listen : Option ℕ → Items → Option Problem
wrong_listen server ds =
    if is_group (item_count ds) then wrong_ports server (ports_after [] ds) else Some ListenCount

-- what is wrong with names of channels, once each is one
abbrev pub wrong_names : Option (List (List ℕ)) → Option Problem
wrong_names None = Some (Refused Channels)
wrong_names (Some names) = option_map Setup (fault_of names default_options)

-- what is wrong with the channels: their number, then one of them, then two that are the same
abbrev pub wrong_channels : Items → Option Problem
wrong_channels ds =
    if nat_lt channel_limit (item_count ds) then Some ChannelCount else wrong_names (names_after [] ds)

-- what is wrong with lines that each session is to send first
abbrev pub wrong_lines : Option (List (List ℕ)) → Option Problem
wrong_lines None = Some (Refused OnConnect)
wrong_lines (Some lines) = None

-- what is wrong with what may be a list
abbrev pub wrong_list : Key → Option ℕ → Option Items → Option Problem
wrong_list key server None = Some (KindOf key)
wrong_list Listen server (Some ds) = wrong_listen server ds
wrong_list OnConnect server (Some ds) = wrong_lines (lines_after [] ds)
wrong_list _ server (Some ds) = wrong_channels ds

-- what is wrong with folders, once each is a path: their number, then two that are the same
abbrev pub wrong_folders : Option ℕ → Option (List (List ℕ)) → Option Problem
wrong_folders nodes None = Some (Refused Store)
wrong_folders nodes (Some paths) =
    if serves nodes (length paths) then (if are_apart paths then None else Some StoreTwice) else Some StoreCount

-- what is wrong with what may be a path or a list of them
abbrev pub wrong_paths : Key → Option ℕ → Data → Option Problem
wrong_paths key nodes d = if has_kind Paths d then wrong_folders nodes (paths_in d) else Some (KindOf key)

-- what is wrong with channels and their keys
abbrev pub wrong_pairs : Option (List (List ℕ × List ℕ)) → Option Problem
wrong_pairs None = Some (Refused ChannelKeys)
wrong_pairs (Some pairs) = None

-- what is wrong with what may be a table
abbrev pub wrong_table : Key → Option Members → Option Problem
wrong_table key None = Some (KindOf key)
wrong_table key (Some ms) = wrong_pairs (pairs_after [] ms)

-- what is wrong with a value of a key that must be of this kind
abbrev pub wrong_value : Kind → Key → Around → Data → Option Problem
wrong_value Text key around d = wrong_text key (as_str d)
wrong_value Texts key around d = wrong_list key around.server (as_array d)
wrong_value Paths key around d = wrong_paths key around.nodes d
wrong_value Pairs key around d = wrong_table key (as_table d)
wrong_value Number key around d = wrong_number key (as_integer d)
wrong_value Truth key around d = wrong_truth key (as_bool d)

-- what is wrong with a key that has this value
abbrev pub wrong_with : Key → Around → Option Data → Option Problem
wrong_with key around None = if is_needed key then Some (Missing key) else None
wrong_with key around (Some d) = wrong_value (kind_of key) key around d

-- the upstream server's port, if the table has one
abbrev pub server_of : Members → Option ℕ
server_of table = option_and_then address_of (text_at Upstream table)

-- how many addresses to listen at the table has, if it has a list of them
abbrev pub nodes_of : Members → Option ℕ
nodes_of table = option_map item_count (list_at Listen table)

-- what a table says about the server and the nodes, for other keys
abbrev pub around_of : Members → Around
around_of table = record { server = server_of table; nodes = nodes_of table }

-- what is wrong with a key of a table
abbrev pub wrong_at : Members → Key → Option Problem
wrong_at table key = wrong_with key (around_of table) (value_at key table)

-- what is reported: that no key has a name, or what is wrong with a key
pub data Told : Type 0 where
  NoKey : List ℕ → Told
  OfKey : Problem → Told

abbrev pub told_of : Problem → Told
told_of (Unknown name) = NoKey (string_bytes name)
told_of p = OfKey p

-- a table has a name
abbrev pub HasName : List ℕ → Members → Type 0
HasName name no_members = ⊥
HasName name (member other d rest) = (other ≡ name) ⊎ HasName name rest

-- the addresses to listen at are addresses, and two of them are the same, or one is that of the
-- upstream server, if that is known
pub record IsDouble (table : Members) : Type 0 where
  pub ports : List ℕ
  pub listen : option_and_then (ports_after []) (list_at Listen table) ≡ Some ports
  pub same : are_different (beside (server_of table) ports) ≡ false

-- the channels are names of channels, no more than allowed, and no setup has them
pub record IsOrderFault (table : Members) (fault : SetupFault) : Type 0 where
  pub channels : List (List ℕ)
  pub few : HasFewChannels table
  pub named : channels_in (value_at Channels table) ≡ Some channels
  pub refused : fault_of channels default_options ≡ Some fault

-- this is wrong with a key of a table, whatever is wrong with the others
abbrev pub IsKeyProblem : Members → Problem → Type 0
IsKeyProblem table ListenTwice = IsDouble table
IsKeyProblem table (Setup fault) = IsOrderFault table fault
IsKeyProblem table p = IsProblem table p

-- what is reported is true
abbrev pub IsTold : Members → Told → Type 0
IsTold table (NoKey name) = HasName name table × (is_known name ≡ false)
IsTold table (OfKey p) = IsKeyProblem table p

abbrev pub AreTold : Members → List Told → Type 0
AreTold table found = AllByRecursion (IsTold table) found

-- all that is wrong with a table: each name that no key has, and what is wrong with each key
abbrev pub faults_of : Members → List Told
faults_of table =
    map NoKey (unknown_names table) ++ map told_of (filter_map (wrong_at table) all_keys)

-- what faults report
abbrev pub told : List KeyFault → List Told
told faults = map (λ f. told_of f.problem) faults

-- by its line; after all lines if none is known
abbrev pub place_of_line : Option ℕ → ℕ
place_of_line None = 2 ^ 64 - 1
place_of_line (Some line) = line

-- the position of a fault among others
abbrev pub place_of : KeyFault → ℕ
place_of fault = place_of_line fault.line

-- the key with which something is wrong
abbrev pub key_of : Problem → Option Key
key_of (Missing key) = Some key
key_of (KindOf key) = Some key
key_of (Refused key) = Some key
key_of ListenCount = Some Listen
key_of ListenTwice = Some Listen
key_of StoreCount = Some Store
key_of StoreTwice = Some Store
key_of ChannelCount = Some Channels
key_of (Setup fault) = Some Channels
key_of p = None

-- something that is wrong with a key is reported
abbrev pub Tells : Members → Key → Type 0
Tells table key =
    (p : Problem) × (wrong_at table key ≡ Some p) × Contains (faults_of table) (told_of p)

-- all that is reported of a table is true, and nothing that is wrong with it is missed
pub record IsWhole (table : Members) : Type 0 where
  pub so : AreTold table (faults_of table)
  pub names : (name : List ℕ) → HasName name table → is_known name ≡ false
      → Contains (faults_of table) (NoKey name)
  pub keys : (p : Problem) → IsProblem table p → IfSome (key_of p) (Tells table)

-- all that is wrong with a table, each fault once, in the order of their lines
pub record AreFaults (table : Members) (faults : List KeyFault) : Type 0 where
  pub all : IsPermutation (faults_of table) (told faults)
  pub whole : IsWhole table
  pub in_order : IsNonDecreasingBy place_of faults
