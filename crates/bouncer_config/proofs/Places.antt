-- A name inserted at its place is where it belongs; and lists that no setup has.
use Rattle.std.proofs.Common.{◌≡◌, ◌<◌, ◌≤◌, ℕ, ◌+◌, suc, Bool, true, false, if◌then◌else◌, List, [], ◌∷◌, ◌++◌, length, Option, Some, None, MatchOption, refl, ap, sym, subst, ◌∙◌, add-one, arith}
use Rattle.std.proofs.lemmas.Bool.{and_parts, false≢true}
use Rattle.std.specs.Prelude.{is_none, option_and_then, option_map}
use Rattle.std.proofs.lemmas.Option.{same_Some}
use Rattle.std.specs.List.{insert}
use Rattle.irc_line.specs.Names.{IsPassed, fold_name, has_channel_mark, is_channel, is_name, is_text}
use Rattle.irc_line.specs.Keys.{is_below, put_in}
use Rattle.toml.specs.Data.{Items, Members, as_str, item, no_items}
use Rattle.toml.specs.View.{items_view}
use Rattle.toml.specs.declared.value.Value.{Value}
use Rattle.raft_log.specs.Peers.{IsGroupSize}
use Rattle.buffer_commands.proofs.Limits.{limits_by_fault}
use Rattle.buffer_commands.specs.Settings.{fault_of, within_limits}
use Rattle.buffer_commands.specs.declared.options.Options.{Options}
use Rattle.buffer_commands.specs.declared.setup_fault.SetupFault.{SetupFault}
use Rattle.bouncer_config.specs.Found.{channel_of, key_of_channel, line_of, place_in, item_count, ports_after}
use Rattle.bouncer_config.specs.Texts.{address_of, begins_with_letter, is_first_line}
use Rattle.bouncer_config.specs.Wrong.{HasFewChannels, IsProblem, Listens, list_at}
use Rattle.bouncer_config.specs.declared.key.Key.TheVariants.{Listen, Channels}
use Rattle.bouncer_config.specs.declared.problem.Problem.TheVariants.{ListenCount, ChannelCount}

insert_by : (b : Bool) (c d : List ℕ) (ds : List (List ℕ)) → insert ds (place_in c ds) c ≡ put_in c ds
    → insert (d ∷ ds) (if b then place_in c ds + 1 else 0) c ≡ (if b then d ∷ put_in c ds else c ∷ d ∷ ds)
insert_by true c d ds e = rw (add-one (place_in c ds)) (ap (λ (t : List (List ℕ)). d ∷ t) e)
insert_by false c d ds e = refl

pub insert_place : (c : List ℕ) (ds : List (List ℕ)) → insert ds (place_in c ds) c ≡ put_in c ds
insert_place c [] = refl
insert_place c (d ∷ ds) = insert_by (is_below (fold_name d) (fold_name c)) c d ds (insert_place c ds)

-- there are as many items as values
pub item_count-view : (vs : List Value) → item_count (items_view vs) ≡ length vs
item_count-view [] = refl
item_count-view (v ∷ vs) = ap suc (item_count-view vs)

-- the same, under a name that an attribute can use
pub count_of_items : (vs : List Value) → item_count (items_view vs) ≡ length vs
count_of_items vs = item_count-view vs

-- the name of a channel is a name
pub named_channel : (bytes : List ℕ) (n : Option (List ℕ)) → is_channel bytes ≡ true → MatchOption n (is_name bytes ≡ false) (IsPassed is_name bytes) → n ≡ channel_of bytes
unfolding is_channel
named_channel bytes None e h = absurd (false≢true (sym h ∙ (and_parts (is_name bytes) (has_channel_mark bytes) e).0))
named_channel bytes (Some n) e h = rw e (ap Some h.0)

-- a line that begins with a letter is a text
pub passed_line : (bytes : List ℕ) (n : Option (List ℕ)) → is_first_line bytes ≡ true → MatchOption n (is_text bytes ≡ false) (IsPassed is_text bytes) → n ≡ line_of bytes
passed_line bytes None e h = absurd (false≢true (sym h ∙ (and_parts (begins_with_letter bytes) (is_text bytes) e).1))
passed_line bytes (Some n) e h = rw e (ap Some h.0)

-- the key of a channel is a name
pub passed_name : (bytes : List ℕ) (n : Option (List ℕ)) → MatchOption n (is_name bytes ≡ false) (IsPassed is_name bytes) → n ≡ key_of_channel bytes
passed_name bytes None h = rw h refl
passed_name bytes (Some n) h = rw h.1 (ap Some h.0)

-- a number of addresses that no group has as nodes
pub no_group : (table : Members) (vs : List Value) → list_at Listen table ≡ Some (items_view vs) → ¬ IsGroupSize (length vs) → IsProblem table ListenCount
no_group table vs e h = (items_view vs, e, rw (item_count-view vs) h)

-- more channels than allowed
pub too_many : (table : Members) (vs : List Value) → list_at Channels table ≡ Some (items_view vs) → 100 < length vs → IsProblem table ChannelCount
too_many table vs e h = (items_view vs, e, rw (item_count-view vs) h)

-- no more channels than allowed
pub no_more : (table : Members) (vs : List Value) → list_at Channels table ≡ Some (items_view vs) → length vs ≤ 100 → HasFewChannels table
no_more table vs e h ds at =
    let same : items_view vs ≡ ds = cc (e, at) in
    subst (λ (d : Items). item_count d ≤ 100) same (rw (item_count-view vs) h)

none_by : (fault : Option SetupFault) → is_none fault ≡ true → fault ≡ None
none_by None e = refl
none_by (Some fault) e = absurd (false≢true e)

-- a setup that keeps its limits has no fault
pub no_setup_fault : (channels : List (List ℕ)) (options : Options) → true ≡ within_limits channels options → fault_of channels options ≡ None
no_setup_fault channels options e = none_by (fault_of channels options) (limits_by_fault channels options ∙ sym e)

pushed_length : (ps : List ℕ) (p : ℕ) → length (ps ++ p ∷ []) ≡ length ps + 1
pushed_length [] p = refl
pushed_length (q ∷ ps) p = omega (arith, pushed_length ps p)

ports_by : (done ports : List ℕ) (found : Option ℕ) (ds : Items) → ((p : ℕ) → ports_after (done ++ p ∷ []) ds ≡ Some ports → length ports ≡ length (done ++ p ∷ []) + item_count ds)
    → option_and_then (λ p. ports_after (done ++ p ∷ []) ds) found ≡ Some ports → length ports ≡ length done + suc (item_count ds)
ports_by done ports None ds count e = absurd (cc e)
ports_by done ports (Some p) ds count e = omega (arith, count p e, pushed_length done p)

-- each address that is read is one port
ports_count : (done ports : List ℕ) (ds : Items) → ports_after done ds ≡ Some ports → length ports ≡ length done + item_count ds
ports_count done ports no_items e = let same = same_Some done ports e in grind (arith, same)
ports_count done ports (item d ds) e = ports_by done ports (option_and_then address_of (as_str d)) ds (λ p h. ports_count (done ++ p ∷ []) ports ds h) e

nodes_by : (t : Members) (ports : List ℕ) (found : Option Items) → list_at Listen t ≡ found → option_and_then (ports_after []) found ≡ Some ports → option_map item_count (list_at Listen t) ≡ Some (length ports)
nodes_by t ports None l e = absurd (cc e)
nodes_by t ports (Some ds) l e = ap (option_map item_count) l ∙ ap Some (omega (arith, ports_count [] ports ds e))

-- the addresses to listen at are as many as the ports that are read
pub listed_nodes : (t : Members) (upstream : ℕ) (ports : List ℕ) → Listens t upstream ports → option_map item_count (list_at Listen t) ≡ Some (length ports)
listed_nodes t upstream ports is = nodes_by t ports (list_at Listen t) refl is.are.listen
