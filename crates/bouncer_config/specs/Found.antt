-- What a table says of each key, and what is wrong with one.
use Rattle.std.specs.Prelude.{◌≡◌, ℕ, false, length, ◌+◌, ◌-◌, ◌==◌, suc, ℤ, pos, negsuc, Bool, true, not, ◌&&◌, ◌||◌, nat_le, nat_lt, if◌then◌else◌, List, [], ◌∷◌, ◌++◌, Option, Some, None, option_map, option_and_then}
use Rattle.std.specs.List.{list_any}
use Rattle.irc_line.specs.Names.{is_channel, is_name, fold_name, same_bytes}
use Rattle.irc_line.specs.Keys.{is_below, put_in}
use Rattle.toml.specs.Data.{Data, Items, no_items, item, Members, no_members, member, get_member, as_str, as_integer, as_bool, as_array, as_table}
use Rattle.buffer_commands.specs.declared.options.Options.{Options}
use Rattle.bouncer_config.specs.KeyTexts.{key_text, limits_of}
use Rattle.bouncer_config.specs.Texts.{address_of, input_end_of, is_first_line, is_path, level_of}
use Rattle.bouncer_config.specs.declared.key.Key.{Key}
use Rattle.bouncer_config.specs.declared.key.Key.TheVariants.{ChanBufferSize, QueryBufferSize, MaxQueryBuffers, OffsetMinutes, AutoClearChanBuffer, AutoClearQueryBuffer, MultiClients}
use Rattle.bouncer_config.specs.declared.key.Limits.{Limits}
use Rattle.bouncer_config.specs.declared.input_end.InputEnd.{InputEnd}
use Rattle.bouncer_config.specs.declared.input_end.InputEnd.TheVariants.{Stops}
use Rattle.bouncer_config.specs.declared.log_level.LogLevel.{LogLevel}
use Rattle.bouncer_config.specs.declared.log_level.LogLevel.TheVariants.{Info}

-- the value of a key, if the table has one
abbrev pub value_at : Key → Members → Option Data
value_at key table = get_member (key_text key) table

-- the text of a key, if its value is one
abbrev pub text_at : Key → Members → Option (List ℕ)
text_at key table = option_and_then as_str (value_at key table)

-- a text that may be left out: without a value there is none, and a value of another kind is
-- refused
abbrev pub text_in : Option Data → Option (Option (List ℕ))
text_in None = Some None
text_in (Some d) = option_map Some (as_str d)

-- a natural number within limits
abbrev pub within : Limits → ℤ → Option ℕ
within limits (pos n) = if nat_le limits.least n && nat_le n limits.most then Some n else None
within limits (negsuc n) = None

-- a natural number, or the default
abbrev pub number_in : Limits → Option Data → Option ℕ
number_in limits None = Some limits.usual
number_in limits (Some d) = option_and_then (within limits) (as_integer d)

-- a truth value, on by default
abbrev pub truth_in : Option Data → Option Bool
truth_in None = Some true
truth_in (Some d) = as_bool d

-- minutes from -1,439 to 1,439, with 1,439 added
abbrev pub above_least : ℤ → Option ℕ
above_least (pos n) = if nat_le n 1439 then Some (n + 1439) else None
above_least (negsuc n) = if nat_lt n 1439 then Some (1438 - n) else None

-- an offset, none by default
abbrev pub offset_in : Option Data → Option ℕ
offset_in None = Some 1439
offset_in (Some d) = option_and_then above_least (as_integer d)

-- a level of the log, `info` by default
abbrev pub level_in : Option Data → Option LogLevel
level_in None = Some Info
level_in (Some d) = option_and_then level_of (as_str d)

-- what the end of standard input does, which is to stop the bouncer by default
abbrev pub input_end_in : Option Data → Option InputEnd
input_end_in None = Some Stops
input_end_in (Some d) = option_and_then input_end_of (as_str d)

-- how many items there are
abbrev pub item_count : Items → ℕ
item_count no_items = 0
item_count (item d ds) = suc (item_count ds)

-- the ports of addresses after those that were read
abbrev pub ports_after : List ℕ → Items → Option (List ℕ)
ports_after done no_items = Some done
ports_after done (item d ds) = option_and_then (λ p. ports_after (done ++ p ∷ []) ds) (option_and_then address_of (as_str d))

-- no port occurs twice
abbrev pub are_different : List ℕ → Bool
are_different [] = true
are_different (p ∷ ps) = not (list_any (λ q. q == p) ps) && are_different ps

-- a channel's name
abbrev pub channel_of : List ℕ → Option (List ℕ)
channel_of text = if is_channel text then Some text else None

-- the names of channels, each inserted where it belongs among those that were read, which rise
abbrev pub names_after : List (List ℕ) → Items → Option (List (List ℕ))
names_after done no_items = Some done
names_after done (item d ds) = option_and_then (λ c. names_after (put_in c done) ds) (option_and_then channel_of (as_str d))

-- the channels by rising folded names, none by default
abbrev pub channels_in : Option Data → Option (List (List ℕ))
channels_in None = Some []
channels_in (Some d) = option_and_then (names_after []) (as_array d)

-- a line that a session may send first
abbrev pub line_of : List ℕ → Option (List ℕ)
line_of text = if is_first_line text then Some text else None

-- such lines, after those that were read
abbrev pub lines_after : List (List ℕ) → Items → Option (List (List ℕ))
lines_after done no_items = Some done
lines_after done (item d ds) = option_and_then (λ line. lines_after (done ++ line ∷ []) ds) (option_and_then line_of (as_str d))

-- the lines that each session sends first, none by default
abbrev pub lines_in : Option Data → Option (List (List ℕ))
lines_in None = Some []
lines_in (Some d) = option_and_then (lines_after []) (as_array d)

-- the key of a channel
abbrev pub key_of_channel : List ℕ → Option (List ℕ)
key_of_channel text = if is_name text then Some text else None

-- a channel and its key
abbrev pub pair_in : List ℕ → Data → Option (List ℕ × List ℕ)
pair_in channel d =
    if is_channel channel then option_map (λ key. (channel, key)) (option_and_then key_of_channel (as_str d)) else None

-- channels and their keys, after those that were read
abbrev pub pairs_after : List (List ℕ × List ℕ) → Members → Option (List (List ℕ × List ℕ))
pairs_after done no_members = Some done
pairs_after done (member channel d rest) = option_and_then (λ pair. pairs_after (done ++ pair ∷ []) rest) (pair_in channel d)

-- channels and their keys, none by default
abbrev pub pairs_in : Option Data → Option (List (List ℕ × List ℕ))
pairs_in None = Some []
pairs_in (Some d) = option_and_then (pairs_after []) (as_table d)

-- a path
abbrev pub path_of : List ℕ → Option (List ℕ)
path_of text = if is_path text then Some text else None

-- paths, after those that were read
abbrev pub paths_after : List (List ℕ) → Items → Option (List (List ℕ))
paths_after done no_items = Some done
paths_after done (item d ds) = option_and_then (λ path. paths_after (done ++ path ∷ []) ds) (option_and_then path_of (as_str d))

-- one path, or a list of them
abbrev pub one_or_list : Option (List ℕ) → Option Items → Option (List (List ℕ))
one_or_list (Some text) ds = option_map (λ path. path ∷ []) (path_of text)
one_or_list None (Some ds) = paths_after [] ds
one_or_list None None = None

abbrev pub paths_in : Data → Option (List (List ℕ))
paths_in d = one_or_list (as_str d) (as_array d)

-- the paths at a key
abbrev pub paths_at : Key → Members → Option (List (List ℕ))
paths_at key table = option_and_then paths_in (value_at key table)

-- no path occurs twice
abbrev pub are_apart : List (List ℕ) → Bool
are_apart [] = true
are_apart (p ∷ ps) = not (list_any (λ q. same_bytes q p) ps) && are_apart ps

-- one folder for all nodes, or one for each, if their number is known
abbrev pub serves : Option ℕ → ℕ → Bool
serves None folders = true
serves (Some nodes) folders = folders == 1 || folders == nodes

-- the options of a setup are those that a table gives
pub record AreOptions (table : Members) (o : Options) : Type 0 where
  pub channel_size : number_in (limits_of ChanBufferSize) (value_at ChanBufferSize table) ≡ Some o.channel_size
  pub query_size : number_in (limits_of QueryBufferSize) (value_at QueryBufferSize table) ≡ Some o.query_size
  pub most_queries : number_in (limits_of MaxQueryBuffers) (value_at MaxQueryBuffers table) ≡ Some o.most_queries
  pub clears_channels : truth_in (value_at AutoClearChanBuffer table) ≡ Some o.clears_channels
  pub clears_queries : truth_in (value_at AutoClearQueryBuffer table) ≡ Some o.clears_queries
  pub many_clients : truth_in (value_at MultiClients table) ≡ Some o.many_clients
  pub offset : offset_in (value_at OffsetMinutes table) ≡ Some o.offset

-- where a name belongs among names that rise
abbrev pub place_in : List ℕ → List (List ℕ) → ℕ
place_in c [] = 0
place_in c (d ∷ ds) = if is_below (fold_name d) (fold_name c) then place_in c ds + 1 else 0
