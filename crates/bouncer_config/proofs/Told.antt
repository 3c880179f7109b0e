-- What is reported of a table is true.
use Rattle.std.proofs.Common.{◌≡◌, ◌<◌, ◌≤◌, ◌&&◌, ℕ, ℤ, Bool, true, false, length, List, [], ◌∷◌, ◌++◌, map, inl, inr, Option, Some, None, refl, ap, sym, subst, ◌∙◌, arith}
use Rattle.std.specs.Prelude.{if◌then◌else◌, IfSome, not, is_some, nat_lt, option_and_then, option_map}
use Rattle.std.specs.List.{cons_option, filter_map}
use Rattle.std.proofs.lemmas.Bool.{false≢true}
use Rattle.std.proofs.lemmas.Bool.Decides.{nat_tests}
use Rattle.toml.specs.Data.{Data, Items, Members, no_members, member, as_str, as_integer, as_bool, as_array, as_table}
use Rattle.raft_log.specs.Peers.{IsGroupSize}
use Rattle.buffer_commands.specs.Settings.{channel_limit, default_options, fault_of}
use Rattle.buffer_commands.specs.declared.setup_fault.SetupFault.{SetupFault}
use Rattle.bouncer_config.specs.KeyTexts.{kind_of}
use Rattle.bouncer_config.specs.Found.{value_at, item_count, ports_after, are_apart, are_different, lines_after, names_after, channels_in, pairs_after, paths_at, paths_in, serves}
use Rattle.bouncer_config.specs.Wrong.{HasFewChannels, all_keys, breaks, fails, has_kind, is_known, is_needed, list_at, list_rule, number_rule, pairs_rule, text_rule, HasOtherCount}
use Rattle.bouncer_config.specs.Faults.{AreTold, HasName, IsTold, Told, around_of, beside, faults_of, is_group, nodes_of, server_of, told, told_of, unknown_names, wrong_at, wrong_folders, wrong_lines, wrong_list, wrong_names, wrong_number, wrong_pairs, wrong_paths, wrong_ports, wrong_table, wrong_text, wrong_truth, wrong_value, wrong_with}
use Rattle.bouncer_config.specs.Faults.Told.{NoKey}
use Rattle.bouncer_config.specs.declared.key.Key.{Key}
use Rattle.bouncer_config.specs.declared.key.Key.TheVariants.{Listen, Channels, ChannelKeys, OnConnect, Store}
use Rattle.bouncer_config.specs.declared.key_fault.KeyFault.{KeyFault}
use Rattle.bouncer_config.specs.declared.key.Kind.{Kind}
use Rattle.bouncer_config.specs.declared.key.Kind.TheVariants.{Text, Texts, Paths, Pairs, Number, Truth}
use Rattle.bouncer_config.specs.declared.problem.Problem.{Problem}
use Rattle.bouncer_config.specs.declared.problem.Problem.TheVariants.{Missing, Kind as KindOf, Refused, ListenCount, ListenTwice, StoreCount, StoreTwice, ChannelCount, Setup}

-- the problem with a key, if there is one, is a real one
abbrev IsSo : Members → Option Problem → Type 0
IsSo t found = IfSome found (λ p. IsTold t (told_of p))

missing_by : (t : Members) (key : Key) (b : Bool) → is_needed key ≡ b → value_at key t ≡ None → IsSo t (if b then Some (Missing key) else None)
missing_by t key true n e = (n, e)
missing_by t key false n e = tt

text_rule_by : (t : Members) (key : Key) (d : Data) (text : List ℕ) (b : Bool) → text_rule key text ≡ b → as_str d ≡ Some text → kind_of key ≡ Text → value_at key t ≡ Some d
    → IsSo t (if b then None else Some (Refused key))
text_rule_by t key d text true r s k e = tt
text_rule_by t key d text false r s k e = (d, e, ap (λ kind. breaks kind key d) k ∙ (ap (fails (text_rule key)) s ∙ ap not r))

text_by : (t : Members) (key : Key) (d : Data) (s : Option (List ℕ)) → as_str d ≡ s → kind_of key ≡ Text → value_at key t ≡ Some d → IsSo t (wrong_text key s)
text_by t key d None s k e = (d, e, ap (λ kind. has_kind kind d) k ∙ ap (λ (o : Option (List ℕ)). is_some o) s)
text_by t key d (Some text) s k e = text_rule_by t key d text (text_rule key text) refl s k e

number_rule_by : (t : Members) (key : Key) (d : Data) (z : ℤ) (b : Bool) → number_rule key z ≡ b → as_integer d ≡ Some z → kind_of key ≡ Number → value_at key t ≡ Some d
    → IsSo t (if b then None else Some (Refused key))
number_rule_by t key d z true r s k e = tt
number_rule_by t key d z false r s k e = (d, e, ap (λ kind. breaks kind key d) k ∙ (ap (fails (number_rule key)) s ∙ ap not r))

number_by : (t : Members) (key : Key) (d : Data) (s : Option ℤ) → as_integer d ≡ s → kind_of key ≡ Number → value_at key t ≡ Some d → IsSo t (wrong_number key s)
number_by t key d None s k e = (d, e, ap (λ kind. has_kind kind d) k ∙ ap (λ (o : Option ℤ). is_some o) s)
number_by t key d (Some z) s k e = number_rule_by t key d z (number_rule key z) refl s k e

truth_by : (t : Members) (key : Key) (d : Data) (s : Option Bool) → as_bool d ≡ s → kind_of key ≡ Truth → value_at key t ≡ Some d → IsSo t (wrong_truth key s)
truth_by t key d None s k e = (d, e, ap (λ kind. has_kind kind d) k ∙ ap (λ (o : Option Bool). is_some o) s)
truth_by t key d (Some b) s k e = tt

-- no group has this many nodes
no_group : (n : ℕ) → is_group n ≡ false → ¬ IsGroupSize n
no_group n g h = grind (arith, nat_tests, g, h)

double_by : (t : Members) (ports : List ℕ) (b : Bool) → are_different (beside (server_of t) ports) ≡ b → option_and_then (ports_after []) (list_at Listen t) ≡ Some ports
    → IsSo t (if b then None else Some ListenTwice)
double_by t ports true r e = tt
double_by t ports false r e = record { ports = ports; listen = e; same = r }

ports_by : (t : Members) (d : Data) (ds : Items) (ports : Option (List ℕ)) → ports_after [] ds ≡ ports → as_array d ≡ Some ds → value_at Listen t ≡ Some d → IsSo t (wrong_ports (server_of t) ports)
ports_by t d ds None p s e = (d, e, ap (fails (list_rule Listen)) s ∙ ap (λ (o : Option (List ℕ)). not (is_some o)) p)
ports_by t d ds (Some ports) p s e =
    double_by t ports (are_different (beside (server_of t) ports)) refl (ap (λ (o : Option Data). option_and_then (ports_after []) (option_and_then as_array o)) e ∙ (ap (option_and_then (ports_after [])) s ∙ p))

group_by : (t : Members) (d : Data) (ds : Items) (b : Bool) → is_group (item_count ds) ≡ b → as_array d ≡ Some ds → value_at Listen t ≡ Some d
    → IsSo t (if b then wrong_ports (server_of t) (ports_after [] ds) else Some ListenCount)
group_by t d ds true g s e = ports_by t d ds (ports_after [] ds) refl s e
group_by t d ds false g s e = (ds, ap (option_and_then as_array) e ∙ s, no_group (item_count ds) g)

fault_by : (t : Members) (names : List (List ℕ)) (fault : Option SetupFault) → fault_of names default_options ≡ fault → HasFewChannels t → channels_in (value_at Channels t) ≡ Some names
    → IsSo t (option_map Setup fault)
fault_by t names None f few e = tt
fault_by t names (Some fault) f few e = record { channels = names; few = few; named = e; refused = f }

names_by : (t : Members) (d : Data) (ds : Items) (names : Option (List (List ℕ))) → names_after [] ds ≡ names → HasFewChannels t → as_array d ≡ Some ds → value_at Channels t ≡ Some d
    → IsSo t (wrong_names names)
names_by t d ds None n few s e = (d, e, ap (fails (list_rule Channels)) s ∙ ap (λ (o : Option (List (List ℕ))). not (is_some o)) n)
names_by t d ds (Some names) n few s e = fault_by t names (fault_of names default_options) refl few (ap channels_in e ∙ (ap (option_and_then (names_after [])) s ∙ n))

more : (m n : ℕ) → nat_lt m n ≡ true → m < n
more m n h = grind (arith, nat_tests, h)

no_more : (m n : ℕ) → nat_lt m n ≡ false → n ≤ m
no_more m n h = grind (arith, nat_tests, h)

few_of : (t : Members) (ds : Items) → list_at Channels t ≡ Some ds → item_count ds ≤ channel_limit → HasFewChannels t
few_of t ds e few other at =
    let same : ds ≡ other = cc (e, at) in
    subst (λ (d : Items). item_count d ≤ channel_limit) same few

count_by_limit : (t : Members) (d : Data) (ds : Items) (b : Bool) → nat_lt channel_limit (item_count ds) ≡ b → as_array d ≡ Some ds → value_at Channels t ≡ Some d
    → IsSo t (if b then Some ChannelCount else wrong_names (names_after [] ds))
count_by_limit t d ds true c s e = (ds, ap (option_and_then as_array) e ∙ s, more channel_limit (item_count ds) c)
count_by_limit t d ds false c s e = names_by t d ds (names_after [] ds) refl (few_of t ds (ap (option_and_then as_array) e ∙ s) (no_more channel_limit (item_count ds) c)) s e

lines_by : (t : Members) (d : Data) (ds : Items) (lines : Option (List (List ℕ))) → lines_after [] ds ≡ lines → as_array d ≡ Some ds → value_at OnConnect t ≡ Some d → IsSo t (wrong_lines lines)
lines_by t d ds None n s e = (d, e, ap (fails (list_rule OnConnect)) s ∙ ap (λ (o : Option (List (List ℕ))). not (is_some o)) n)
lines_by t d ds (Some lines) n s e = tt

items_by : (t : Members) (key : Key) (d : Data) (ds : Items) → as_array d ≡ Some ds → kind_of key ≡ Texts → value_at key t ≡ Some d → IsSo t (wrong_list key (server_of t) (Some ds))
items_by t Listen d ds s k e = group_by t d ds (is_group (item_count ds)) refl s e
items_by t Channels d ds s k e = count_by_limit t d ds (nat_lt channel_limit (item_count ds)) refl s e
items_by t OnConnect d ds s k e = lines_by t d ds (lines_after [] ds) refl s e
items_by t key d ds s k e = absurd (cc k)

list_by : (t : Members) (key : Key) (d : Data) (s : Option Items) → as_array d ≡ s → kind_of key ≡ Texts → value_at key t ≡ Some d → IsSo t (wrong_list key (server_of t) s)
list_by t key d None s k e = (d, e, ap (λ kind. has_kind kind d) k ∙ ap (λ (o : Option Items). is_some o) s)
list_by t key d (Some ds) s k e = items_by t key d ds s k e

apart_by : (t : Members) (paths : List (List ℕ)) (b : Bool) → are_apart paths ≡ b → paths_at Store t ≡ Some paths → IsSo t (if b then None else Some StoreTwice)
apart_by t paths true a at = tt
apart_by t paths false a at = record { paths = paths; store = at; same = a }

other_by : (t : Members) (paths : List (List ℕ)) (found : Option Items) → list_at Listen t ≡ found → serves (nodes_of t) (length paths) ≡ false → paths_at Store t ≡ Some paths → HasOtherCount t
other_by t paths None l s at = absurd (false≢true (sym s ∙ ap (λ (o : Option Items). serves (option_map item_count o) (length paths)) l))
other_by t paths (Some ds) l s at =
    record { paths = paths; nodes = ds; store = at; listen = l; other = sym (ap (λ (o : Option Items). serves (option_map item_count o) (length paths)) l) ∙ s }

count_by : (t : Members) (paths : List (List ℕ)) (b : Bool) → serves (nodes_of t) (length paths) ≡ b → paths_at Store t ≡ Some paths
    → IsSo t (if b then (if are_apart paths then None else Some StoreTwice) else Some StoreCount)
count_by t paths true s at = apart_by t paths (are_apart paths) refl at
count_by t paths false s at = other_by t paths (list_at Listen t) refl s at

folders_by : (t : Members) (d : Data) (paths : Option (List (List ℕ))) → paths_in d ≡ paths → has_kind Paths d ≡ true → value_at Store t ≡ Some d → IsSo t (wrong_folders (nodes_of t) paths)
folders_by t d None p h e = (d, e, ap (λ (b : Bool). b && not (is_some (paths_in d))) h ∙ ap (λ (o : Option (List (List ℕ))). not (is_some o)) p)
folders_by t d (Some paths) p h e = count_by t paths (serves (nodes_of t) (length paths)) refl (ap (option_and_then paths_in) e ∙ p)

store_by : (t : Members) (d : Data) (b : Bool) → has_kind Paths d ≡ b → value_at Store t ≡ Some d → IsSo t (if b then wrong_folders (nodes_of t) (paths_in d) else Some (KindOf Store))
store_by t d true h e = folders_by t d (paths_in d) refl h e
store_by t d false h e = (d, e, h)

paths_by : (t : Members) (key : Key) (d : Data) → kind_of key ≡ Paths → value_at key t ≡ Some d → IsSo t (wrong_paths key (nodes_of t) d)
paths_by t Store d k e = store_by t d (has_kind Paths d) refl e
paths_by t key d k e = absurd (cc k)

pairs_by : (t : Members) (d : Data) (ms : Members) (pairs : Option (List (List ℕ × List ℕ))) → pairs_after [] ms ≡ pairs → as_table d ≡ Some ms → value_at ChannelKeys t ≡ Some d → IsSo t (wrong_pairs pairs)
pairs_by t d ms None n s e = (d, e, ap (fails pairs_rule) s ∙ ap (λ (o : Option (List (List ℕ × List ℕ))). not (is_some o)) n)
pairs_by t d ms (Some pairs) n s e = tt

members_by : (t : Members) (key : Key) (d : Data) (ms : Members) → as_table d ≡ Some ms → kind_of key ≡ Pairs → value_at key t ≡ Some d → IsSo t (wrong_table key (Some ms))
members_by t ChannelKeys d ms s k e = pairs_by t d ms (pairs_after [] ms) refl s e
members_by t key d ms s k e = absurd (cc k)

table_by : (t : Members) (key : Key) (d : Data) (s : Option Members) → as_table d ≡ s → kind_of key ≡ Pairs → value_at key t ≡ Some d → IsSo t (wrong_table key s)
table_by t key d None s k e = (d, e, ap (λ kind. has_kind kind d) k ∙ ap (λ (o : Option Members). is_some o) s)
table_by t key d (Some ms) s k e = members_by t key d ms s k e

value_by : (t : Members) (key : Key) (d : Data) (kind : Kind) → kind_of key ≡ kind → value_at key t ≡ Some d → IsSo t (wrong_value kind key (around_of t) d)
value_by t key d Text k e = text_by t key d (as_str d) refl k e
value_by t key d Texts k e = list_by t key d (as_array d) refl k e
value_by t key d Paths k e = paths_by t key d k e
value_by t key d Pairs k e = table_by t key d (as_table d) refl k e
value_by t key d Number k e = number_by t key d (as_integer d) refl k e
value_by t key d Truth k e = truth_by t key d (as_bool d) refl k e

with_by : (t : Members) (key : Key) (found : Option Data) → value_at key t ≡ found → IsSo t (wrong_with key (around_of t) found)
with_by t key None e = missing_by t key (is_needed key) refl e
with_by t key (Some d) e = value_by t key d (kind_of key) refl e

-- what is reported as wrong with a key is wrong
key_so : (t : Members) (key : Key) → IsSo t (wrong_at t key)
key_so t key = with_by t key (value_at key t) refl

key_by : (t : Members) (found : Option Problem) (ps : List Problem) → IsSo t found → AreTold t (map told_of ps) → AreTold t (map told_of (cons_option found ps))
key_by t None ps a all = all
key_by t (Some p) ps a all = (a, all)

keys_so : (t : Members) (keys : List Key) → AreTold t (map told_of (filter_map (wrong_at t) keys))
keys_so t [] = tt
keys_so t (key ∷ keys) = key_by t (wrong_at t key) (filter_map (wrong_at t) keys) (key_so t key) (keys_so t keys)

name_by : (t : Members) (name : List ℕ) (names : List (List ℕ)) (b : Bool) → is_known name ≡ b → HasName name t → AreTold t (map NoKey names) → AreTold t (map NoKey (if b then names else name ∷ names))
name_by t name names true k h all = all
name_by t name names false k h all = ((h, k), all)

names_so : (t part : Members) → ((name : List ℕ) → HasName name part → HasName name t) → AreTold t (map NoKey (unknown_names part))
names_so t no_members within = tt
names_so t (member name d rest) within = name_by t name (unknown_names rest) (is_known name) refl (within name (inl refl)) (names_so t rest (λ other h. within other (inr h)))

both_so : (t : Members) (xs ys : List Told) → AreTold t xs → AreTold t ys → AreTold t (xs ++ ys)
both_so t [] ys a b = b
both_so t (x ∷ xs) ys a b = (a.0, both_so t xs ys a.1 b)

-- all that is reported of a table is true
pub all_so : (t : Members) → AreTold t (faults_of t)
all_so t = both_so t (map NoKey (unknown_names t)) (map told_of (filter_map (wrong_at t) all_keys)) (names_so t t (λ name h. h)) (keys_so t all_keys)

-- what was gathered is all that is wrong with a table
pub gathered : (t : Members) (start names all : List KeyFault) (keys : List Key) → start ≡ [] → told names ≡ told start ++ map NoKey (unknown_names t)
    → keys ≡ all_keys → told all ≡ told names ++ map told_of (filter_map (wrong_at t) keys) → faults_of t ≡ told all
gathered t start names all keys s n k e =
    let named : told names ≡ map NoKey (unknown_names t) = n ∙ ap (λ (fs : List KeyFault). told fs ++ map NoKey (unknown_names t)) s in
    sym (e ∙ (ap (λ ks. told names ++ map told_of (filter_map (wrong_at t) ks)) k ∙ ap (λ ns. ns ++ map told_of (filter_map (wrong_at t) all_keys)) named))
