-- Whatever is wrong with a key of a table, something wrong with that key is reported.
use Rattle.std.proofs.Common.{◌≡◌, ◌<◌, ◌&&◌, ℕ, ℤ, Bool, length, true, false, List, [], ◌∷◌, map, ◌⊎◌, inl, inr, Option, Some, None, refl, ap, sym, subst, ◌∙◌, arith}
use Rattle.std.specs.Prelude.{if◌then◌else◌, IfSome, not, is_some, nat_lt, option_and_then, option_map}
use Rattle.std.specs.List.{Contains, cons_option, filter_map}
use Rattle.std.proofs.lemmas.Bool.{and_parts, false≢true}
use Rattle.std.proofs.lemmas.Bool.Decides.{nat_tests}
use Rattle.std.proofs.lemmas.List.Elements.{Contains-append_left, Contains-append_right}
use Rattle.toml.specs.Data.{Data, Items, Members, no_members, member, as_str, as_integer, as_bool, as_array, as_table}
use Rattle.raft_log.specs.Peers.{IsGroupSize}
use Rattle.buffer_commands.specs.Settings.{channel_limit}
use Rattle.buffer_commands.specs.declared.setup_fault.SetupFault.{SetupFault}
use Rattle.bouncer_config.specs.KeyTexts.{kind_of}
use Rattle.bouncer_config.specs.Found.{value_at, are_apart, channels_in, item_count, lines_after, names_after, pairs_after, paths_in, ports_after, serves}
use Rattle.bouncer_config.specs.Wrong.{HasOtherCount, IsProblem, IsSetupFault, all_keys, IsTwice, breaks, fails, has_kind, is_known, is_needed, list_at, list_rule, number_rule, pairs_rule, text_rule}
use Rattle.bouncer_config.specs.Faults.{HasName, IsWhole, Tells, Told, around_of, is_group, key_of, nodes_of, server_of, told_of, unknown_names, wrong_at, wrong_channels, wrong_folders, wrong_lines, wrong_list, wrong_names, wrong_number, wrong_pairs, wrong_ports, wrong_table, wrong_text, wrong_truth, wrong_value, wrong_with}
use Rattle.bouncer_config.specs.Faults.Told.{NoKey}
use Rattle.bouncer_config.proofs.Setups.{names_found, not_left_out}
use Rattle.bouncer_config.proofs.Told.{all_so}
use Rattle.bouncer_config.specs.declared.judging.Around.{Around}
use Rattle.bouncer_config.specs.declared.key.Key.{Key}
use Rattle.bouncer_config.specs.declared.key.Key.TheVariants.{Nick, Password, Upstream, UpstreamPassword, Listen, Store, Record, Channels, ChanBufferSize, QueryBufferSize, MaxQueryBuffers, OffsetMinutes, AutoClearChanBuffer, AutoClearQueryBuffer, MultiClients, BeatMs, TimeoutMs, FloodBurst, FloodMs, Log, Input, RenewAt, ChannelKeys, OnConnect}
use Rattle.bouncer_config.specs.declared.key.Kind.{Kind}
use Rattle.bouncer_config.specs.declared.key.Kind.TheVariants.{Text, Texts, Paths, Pairs, Number, Truth}
use Rattle.bouncer_config.specs.declared.problem.Problem.{Problem}
use Rattle.bouncer_config.specs.declared.problem.Problem.TheVariants.{Missing, Kind as KindOf, Refused, ListenCount, ListenTwice, StoreCount, StoreTwice, ChannelCount, Setup}

abbrev IsFound : Option Problem → Type 0
IsFound found = is_some found ≡ true

-- a needed key that is missing
missing : (t : Members) (key : Key) → is_needed key ≡ true → value_at key t ≡ None → IsFound (wrong_at t key)
missing t key n e =
    ap (λ v. is_some (wrong_with key (around_of t) v)) e ∙ ap (λ (b : Bool). is_some (if b then Some (Missing key) else None)) n

-- a key that has a value
valued : (t : Members) (key : Key) (d : Data) → value_at key t ≡ Some d → IsFound (wrong_value (kind_of key) key (around_of t) d) → IsFound (wrong_at t key)
valued t key d e found = ap (λ v. is_some (wrong_with key (around_of t) v)) e ∙ found

-- a value of another kind
text_kind : (key : Key) (s : Option (List ℕ)) → is_some s ≡ false → IsFound (wrong_text key s)
text_kind key None h = refl
text_kind key (Some text) h = absurd (false≢true (sym h))

number_kind : (key : Key) (s : Option ℤ) → is_some s ≡ false → IsFound (wrong_number key s)
number_kind key None h = refl
number_kind key (Some z) h = absurd (false≢true (sym h))

truth_kind : (key : Key) (s : Option Bool) → is_some s ≡ false → IsFound (wrong_truth key s)
truth_kind key None h = refl
truth_kind key (Some b) h = absurd (false≢true (sym h))

list_kind : (key : Key) (server : Option ℕ) (s : Option Items) → is_some s ≡ false → IsFound (wrong_list key server s)
list_kind key server None h = refl
list_kind key server (Some ds) h = absurd (false≢true (sym h))

table_kind : (key : Key) (s : Option Members) → is_some s ≡ false → IsFound (wrong_table key s)
table_kind key None h = refl
table_kind key (Some ms) h = absurd (false≢true (sym h))

-- a test that fails, and one after which something is wrong in both cases
unless : (b : Bool) (found : Option Problem) (p : Problem) → b ≡ false → IsFound (if b then found else Some p)
unless true found p h = absurd (false≢true (sym h))
unless false found p h = refl

either_way : (b : Bool) (found : Option Problem) (p : Problem) → IsFound found → IsFound (if b then found else Some p)
either_way true found p h = h
either_way false found p h = refl

other_kind : (kind : Kind) (key : Key) (around : Around) (d : Data) → has_kind kind d ≡ false → IsFound (wrong_value kind key around d)
other_kind Text key around d h = text_kind key (as_str d) h
other_kind Texts key around d h = list_kind key around.server (as_array d) h
other_kind Paths key around d h = unless (has_kind Paths d) (wrong_folders around.nodes (paths_in d)) (KindOf key) h
other_kind Pairs key around d h = table_kind key (as_table d) h
other_kind Number key around d h = number_kind key (as_integer d) h
other_kind Truth key around d h = truth_kind key (as_bool d) h

-- a value that a rule refuses
ruled : (b : Bool) (p : Problem) → not b ≡ true → IsFound (if b then None else Some p)
ruled true p h = absurd (false≢true h)
ruled false p h = refl

text_breaks : (key : Key) (s : Option (List ℕ)) → fails (text_rule key) s ≡ true → IsFound (wrong_text key s)
text_breaks key None h = refl
text_breaks key (Some text) h = ruled (text_rule key text) (Refused key) h

number_breaks : (key : Key) (s : Option ℤ) → fails (number_rule key) s ≡ true → IsFound (wrong_number key s)
number_breaks key None h = refl
number_breaks key (Some z) h = ruled (number_rule key z) (Refused key) h

ports_break : (server : Option ℕ) (ports : Option (List ℕ)) → not (is_some ports) ≡ true → IsFound (wrong_ports server ports)
ports_break server None h = refl
ports_break server (Some ports) h = absurd (false≢true h)

listen_breaks : (b : Bool) (server : Option ℕ) (ds : Items) → IsFound (wrong_ports server (ports_after [] ds)) → IsFound (if b then wrong_ports server (ports_after [] ds) else Some ListenCount)
listen_breaks true server ds h = h
listen_breaks false server ds h = refl

names_break : (names : Option (List (List ℕ))) → not (is_some names) ≡ true → IsFound (wrong_names names)
names_break None h = refl
names_break (Some names) h = absurd (false≢true h)

channels_break : (b : Bool) (ds : Items) → IsFound (wrong_names (names_after [] ds)) → IsFound (if b then Some ChannelCount else wrong_names (names_after [] ds))
channels_break true ds h = refl
channels_break false ds h = h

lines_break : (lines : Option (List (List ℕ))) → not (is_some lines) ≡ true → IsFound (wrong_lines lines)
lines_break None h = refl
lines_break (Some lines) h = absurd (false≢true h)

folders_break : (nodes : Option ℕ) (paths : Option (List (List ℕ))) → not (is_some paths) ≡ true → IsFound (wrong_folders nodes paths)
folders_break nodes None h = refl
folders_break nodes (Some paths) h = absurd (false≢true h)

pairs_break : (pairs : Option (List (List ℕ × List ℕ))) → not (is_some pairs) ≡ true → IsFound (wrong_pairs pairs)
pairs_break None h = refl
pairs_break (Some pairs) h = absurd (false≢true h)

table_breaks : (key : Key) (s : Option Members) → fails pairs_rule s ≡ true → IsFound (wrong_table key s)
table_breaks key None h = refl
table_breaks key (Some ms) h = pairs_break (pairs_after [] ms) h

items_break : (key : Key) (server : Option ℕ) (ds : Items) → not (list_rule key ds) ≡ true → IsFound (wrong_list key server (Some ds))
items_break Listen server ds h = listen_breaks (is_group (item_count ds)) server ds (ports_break server (ports_after [] ds) h)
items_break Channels server ds h = channels_break (nat_lt channel_limit (item_count ds)) ds (names_break (names_after [] ds) h)
items_break OnConnect server ds h = lines_break (lines_after [] ds) h
items_break key server ds h = absurd (false≢true h)

list_breaks : (key : Key) (server : Option ℕ) (s : Option Items) → fails (list_rule key) s ≡ true → IsFound (wrong_list key server s)
list_breaks key server None h = refl
list_breaks key server (Some ds) h = items_break key server ds h

refused : (kind : Kind) (key : Key) (around : Around) (d : Data) → breaks kind key d ≡ true → IsFound (wrong_value kind key around d)
refused Text key around d h = text_breaks key (as_str d) h
refused Texts key around d h = list_breaks key around.server (as_array d) h
refused Paths key around d h =
    either_way (has_kind Paths d) (wrong_folders around.nodes (paths_in d)) (KindOf key) (folders_break around.nodes (paths_in d) (and_parts (has_kind Paths d) (not (is_some (paths_in d))) h).1)
refused Pairs key around d h = table_breaks key (as_table d) h
refused Number key around d h = number_breaks key (as_integer d) h
refused Truth key around d h = absurd (false≢true h)

-- a list of a key
listed : (t : Members) (key : Key) (ds : Items) (found : Option Data) → value_at key t ≡ found → option_and_then as_array found ≡ Some ds → kind_of key ≡ Texts
    → IsFound (wrong_list key (server_of t) (Some ds)) → IsFound (wrong_at t key)
listed t key ds None e at k h = absurd (cc at)
listed t key ds (Some d) e at k h =
    valued t key d e (ap (λ kind. is_some (wrong_value kind key (around_of t) d)) k ∙ (ap (λ s. is_some (wrong_list key (server_of t) s)) at ∙ h))

count_breaks : (b : Bool) (found : Option Problem) → b ≡ false → IsFound (if b then found else Some ListenCount)
count_breaks true found h = absurd (false≢true (sym h))
count_breaks false found h = refl

no_group_by : (n : ℕ) (b : Bool) → is_group n ≡ b → ¬ IsGroupSize n → b ≡ false
no_group_by n true g none = absurd (none (grind (arith, nat_tests, g)))
no_group_by n false g none = refl

too_many : (b : Bool) (found : Option Problem) → b ≡ true → IsFound (if b then Some ChannelCount else found)
too_many true found h = refl
too_many false found h = absurd (false≢true h)

more : (m n : ℕ) → m < n → nat_lt m n ≡ true
more m n h = grind (arith, nat_tests)

twice : (t : Members) (ds : Items) (is : IsTwice t) → list_at Listen t ≡ Some ds → IsFound (wrong_ports (server_of t) (ports_after [] ds))
twice t ds is at =
    let ports : ports_after [] ds ≡ Some is.ports = sym (ap (option_and_then (ports_after [])) at) ∙ is.are.listen in
    ap (λ ps. is_some (wrong_ports (server_of t) ps)) ports ∙ (ap (λ server. is_some (wrong_ports server (Some is.ports))) is.are.server
    ∙ ap (λ (b : Bool). is_some (if b then None else Some ListenTwice)) is.same)

twice_by : (t : Members) (is : IsTwice t) (found : Option Items) → list_at Listen t ≡ found → IsFound (wrong_at t Listen)
twice_by t is None at = absurd (let none = sym (ap (option_and_then (ports_after [])) at) ∙ is.are.listen in cc none)
twice_by t is (Some ds) at = listed t Listen ds (value_at Listen t) refl at refl (listen_breaks (is_group (item_count ds)) (server_of t) ds (twice t ds is at))

unset : (t : Members) (fault : SetupFault) (is : IsSetupFault t fault) (ds : Items) → names_after [] ds ≡ Some is.channels → IsFound (wrong_channels ds)
unset t fault is ds n = channels_break (nat_lt channel_limit (item_count ds)) ds (ap (λ names. is_some (wrong_names names)) n ∙ names_found t fault is)

unset_items : (t : Members) (fault : SetupFault) (is : IsSetupFault t fault) (d : Data) → value_at Channels t ≡ Some d → (s : Option Items) → as_array d ≡ s
    → option_and_then (names_after []) s ≡ Some is.channels → IsFound (wrong_at t Channels)
unset_items t fault is d e None a n = absurd (cc n)
unset_items t fault is d e (Some ds) a n = listed t Channels ds (Some d) e a refl (unset t fault is ds n)

unset_by : (t : Members) (fault : SetupFault) (is : IsSetupFault t fault) (found : Option Data) → value_at Channels t ≡ found → IsFound (wrong_at t Channels)
unset_by t fault is None e = absurd (not_left_out t fault is e)
unset_by t fault is (Some d) e = unset_items t fault is d e (as_array d) refl (sym (ap channels_in e) ∙ is.named)

stored : (t : Members) (paths : List (List ℕ)) (found : Option Data) → value_at Store t ≡ found → option_and_then paths_in found ≡ Some paths
    → IsFound (wrong_folders (nodes_of t) (Some paths)) → IsFound (wrong_at t Store)
stored t paths None e at h = absurd (cc at)
stored t paths (Some d) e at h =
    valued t Store d e (either_way (has_kind Paths d) (wrong_folders (nodes_of t) (paths_in d)) (KindOf Store) (ap (λ ps. is_some (wrong_folders (nodes_of t) ps)) at ∙ h))

other_count : (t : Members) (is : HasOtherCount t) → serves (nodes_of t) (length is.paths) ≡ false
other_count t is = ap (λ (o : Option Items). serves (option_map item_count o) (length is.paths)) is.listen ∙ is.other

-- what is wrong with a key is found
found : (t : Members) (p : Problem) → IsProblem t p → IfSome (key_of p) (λ key. IsFound (wrong_at t key))
found t (Missing key) h = missing t key h.0 h.1
found t (KindOf key) h = valued t key h.0 h.1 (other_kind (kind_of key) key (around_of t) h.0 h.2)
found t (Refused key) h = valued t key h.0 h.1 (refused (kind_of key) key (around_of t) h.0 h.2)
found t ListenCount h = listed t Listen h.0 (value_at Listen t) refl h.1 refl (count_breaks (is_group (item_count h.0)) _ (no_group_by (item_count h.0) (is_group (item_count h.0)) refl h.2))
found t ListenTwice h = twice_by t h (list_at Listen t) refl
found t StoreCount h = stored t h.paths (value_at Store t) refl h.store (unless (serves (nodes_of t) (length h.paths)) _ StoreCount (other_count t h))
found t StoreTwice h = stored t h.paths (value_at Store t) refl h.store (either_way (serves (nodes_of t) (length h.paths)) _ StoreCount (unless (are_apart h.paths) None StoreTwice h.same))
found t ChannelCount h = listed t Channels h.0 (value_at Channels t) refl h.1 refl (too_many (nat_lt channel_limit (item_count h.0)) _ (more channel_limit (item_count h.0) h.2))
found t (Setup fault) h = unset_by t fault h (value_at Channels t) refl
found t p h = tt

name_by : (name other : List ℕ) (rest : List (List ℕ)) (b : Bool) → is_known other ≡ b → is_known name ≡ false → (other ≡ name) ⊎ Contains (map NoKey rest) (NoKey name)
    → Contains (map NoKey (if b then rest else other ∷ rest)) (NoKey name)
name_by name other rest true o n (inl e) = absurd (false≢true (sym n ∙ (ap is_known (sym e) ∙ o)))
name_by name other rest true o n (inr h) = h
name_by name other rest false o n (inl e) = (0, omega arith, ap NoKey e)
name_by name other rest false o n (inr h) = Contains-append_right (NoKey other ∷ []) (map NoKey rest) (NoKey name) h

step : (name other : List ℕ) (rest : Members) → (other ≡ name) ⊎ HasName name rest → (HasName name rest → Contains (map NoKey (unknown_names rest)) (NoKey name))
    → (other ≡ name) ⊎ Contains (map NoKey (unknown_names rest)) (NoKey name)
step name other rest (inl e) f = inl e
step name other rest (inr h) f = inr (f h)

-- a name that no key has is reported
name_told : (t : Members) (name : List ℕ) → HasName name t → is_known name ≡ false → Contains (map NoKey (unknown_names t)) (NoKey name)
name_told no_members name h n = absurd h
name_told (member other d rest) name h n = name_by name other (unknown_names rest) (is_known other) refl n (step name other rest h (λ g. name_told rest name g n))

abbrev Among : Key → List Key → Type 0
Among key [] = ⊥
Among key (first ∷ rest) = (first ≡ key) ⊎ Among key rest

every : (key : Key) → Among key all_keys
every Nick = inl refl
every Password = inr (inl refl)
every Upstream = inr (inr (inl refl))
every UpstreamPassword = inr (inr (inr (inl refl)))
every Listen = inr (inr (inr (inr (inl refl))))
every Store = inr (inr (inr (inr (inr (inl refl)))))
every Record = inr (inr (inr (inr (inr (inr (inl refl))))))
every Channels = inr (inr (inr (inr (inr (inr (inr (inl refl)))))))
every ChanBufferSize = inr (inr (inr (inr (inr (inr (inr (inr (inl refl))))))))
every QueryBufferSize = inr (inr (inr (inr (inr (inr (inr (inr (inr (inl refl)))))))))
every MaxQueryBuffers = inr (inr (inr (inr (inr (inr (inr (inr (inr (inr (inl refl))))))))))
every OffsetMinutes = inr (inr (inr (inr (inr (inr (inr (inr (inr (inr (inr (inl refl)))))))))))
every AutoClearChanBuffer = inr (inr (inr (inr (inr (inr (inr (inr (inr (inr (inr (inr (inl refl))))))))))))
every AutoClearQueryBuffer = inr (inr (inr (inr (inr (inr (inr (inr (inr (inr (inr (inr (inr (inl refl)))))))))))))
every MultiClients = inr (inr (inr (inr (inr (inr (inr (inr (inr (inr (inr (inr (inr (inr (inl refl))))))))))))))
every BeatMs = inr (inr (inr (inr (inr (inr (inr (inr (inr (inr (inr (inr (inr (inr (inr (inl refl)))))))))))))))
every TimeoutMs = inr (inr (inr (inr (inr (inr (inr (inr (inr (inr (inr (inr (inr (inr (inr (inr (inl refl))))))))))))))))
every FloodBurst = inr (inr (inr (inr (inr (inr (inr (inr (inr (inr (inr (inr (inr (inr (inr (inr (inr (inl refl)))))))))))))))))
every FloodMs = inr (inr (inr (inr (inr (inr (inr (inr (inr (inr (inr (inr (inr (inr (inr (inr (inr (inr (inl refl))))))))))))))))))
every Log = inr (inr (inr (inr (inr (inr (inr (inr (inr (inr (inr (inr (inr (inr (inr (inr (inr (inr (inr (inl refl)))))))))))))))))))
every Input = inr (inr (inr (inr (inr (inr (inr (inr (inr (inr (inr (inr (inr (inr (inr (inr (inr (inr (inr (inr (inl refl))))))))))))))))))))
every RenewAt = inr (inr (inr (inr (inr (inr (inr (inr (inr (inr (inr (inr (inr (inr (inr (inr (inr (inr (inr (inr (inr (inl refl)))))))))))))))))))))
every ChannelKeys = inr (inr (inr (inr (inr (inr (inr (inr (inr (inr (inr (inr (inr (inr (inr (inr (inr (inr (inr (inr (inr (inr (inl refl))))))))))))))))))))))
every OnConnect = inr (inr (inr (inr (inr (inr (inr (inr (inr (inr (inr (inr (inr (inr (inr (inr (inr (inr (inr (inr (inr (inr (inr (inl refl)))))))))))))))))))))))

kept_by : (found : Option Problem) (ps : List Problem) (p : Told) → Contains (map told_of ps) p → Contains (map told_of (cons_option found ps)) p
kept_by None ps p h = h
kept_by (Some q) ps p h = Contains-append_right (told_of q ∷ []) (map told_of ps) p h

-- what is wrong with a key is reported
key_told : (t : Members) (keys : List Key) (key : Key) (q : Problem) → wrong_at t key ≡ Some q → Among key keys → Contains (map told_of (filter_map (wrong_at t) keys)) (told_of q)
key_told t [] key q w h = absurd h
key_told t (first ∷ keys) key q w (inl e) =
    let is : wrong_at t first ≡ Some q = ap (wrong_at t) e ∙ w in
    subst (λ (o : Option Problem). Contains (map told_of (cons_option o (filter_map (wrong_at t) keys))) (told_of q)) (sym is) (0, omega arith, refl)
key_told t (first ∷ keys) key q w (inr h) = kept_by (wrong_at t first) (filter_map (wrong_at t) keys) (told_of q) (key_told t keys key q w h)

some_by : (t : Members) (key : Key) (o : Option Problem) → wrong_at t key ≡ o → is_some o ≡ true → Tells t key
some_by t key None w h = absurd (false≢true h)
some_by t key (Some q) w h = (q, w, Contains-append_right (map NoKey (unknown_names t)) (map told_of (filter_map (wrong_at t) all_keys)) (told_of q) (key_told t all_keys key q w (every key)))

key_by : (t : Members) (key : Option Key) → IfSome key (λ k. IsFound (wrong_at t k)) → IfSome key (Tells t)
key_by t None h = tt
key_by t (Some key) h = some_by t key (wrong_at t key) refl h

-- all that is reported is true, and nothing is missed
pub whole : (t : Members) → IsWhole t
whole t =
    record {
      so = all_so t;
      names = λ name h n. Contains-append_left (map NoKey (unknown_names t)) (map told_of (filter_map (wrong_at t) all_keys)) (NoKey name) (name_told t name h n);
      keys = λ p h. key_by t (key_of p) (found t p h);
    }
