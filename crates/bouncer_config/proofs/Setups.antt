-- If no setup has the channels of a table, that is found, whatever its options are.
use Rattle.std.proofs.Common.{◌≡◌, ◌≤◌, ℕ, ℤ, pos, negsuc, Bool, true, false, ◌&&◌, List, [], Option, Some, None, refl, ap, sym, ◌∙◌, arith}
use Rattle.std.specs.Prelude.{if◌then◌else◌, is_some, length, nat_le, nat_lt, option_and_then, option_map}
use Rattle.std.proofs.lemmas.Bool.Decides.{nat_tests}
use Rattle.std.proofs.lemmas.Option.{same_Some}
use Rattle.toml.specs.Data.{Data, Members, as_integer}
use Rattle.buffer_commands.specs.Settings.{default_options, fault_of, first_fault, order_fault, size_fault}
use Rattle.buffer_commands.specs.declared.options.Options.{Options}
use Rattle.buffer_commands.specs.declared.setup_fault.SetupFault.{SetupFault}
use Rattle.buffer_commands.specs.declared.setup_fault.SetupFault.TheVariants.{TooManyChannels}
use Rattle.bouncer_config.specs.KeyTexts.{limits_of}
use Rattle.bouncer_config.specs.Found.{AreOptions, channels_in, number_in, value_at, within}
use Rattle.bouncer_config.specs.Wrong.{IsSetupFault}
use Rattle.bouncer_config.specs.Faults.{wrong_names}
use Rattle.bouncer_config.specs.declared.key.Key.TheVariants.{ChanBufferSize, Channels, MaxQueryBuffers, QueryBufferSize}
use Rattle.bouncer_config.specs.declared.key.Limits.{Limits}
use Rattle.bouncer_config.specs.declared.problem.Problem.TheVariants.{Setup}

-- a number that is read is within its limits
abbrev IsWithin : Limits → ℕ → Type 0
IsWithin limits n = (limits.least ≤ n) × (n ≤ limits.most)

whole_by : (limits : Limits) (m n : ℕ) (a b : Bool) → nat_le limits.least m ≡ a → nat_le m limits.most ≡ b → (let r : Option ℕ = if a && b then Some m else None in r ≡ Some n) → IsWithin limits n
whole_by limits m n true true a b e = let same = same_Some m n e in (grind (arith, nat_tests, a, same), grind (arith, nat_tests, b, same))
whole_by limits m n true false a b e = absurd (cc e)
whole_by limits m n false b a c e = absurd (cc e)

read_by : (limits : Limits) (z : Option ℤ) (n : ℕ) → option_and_then (within limits) z ≡ Some n → IsWithin limits n
read_by limits None n e = absurd (cc e)
read_by limits (Some (pos m)) n e = whole_by limits m n (nat_le limits.least m) (nat_le m limits.most) refl refl e
read_by limits (Some (negsuc m)) n e = absurd (cc e)

number_by : (limits : Limits) (v : Option Data) (n : ℕ) → limits.least ≤ limits.usual → limits.usual ≤ limits.most → number_in limits v ≡ Some n → IsWithin limits n
number_by limits None n l m e = let same = same_Some limits.usual n e in (omega (arith, l, same), omega (arith, m, same))
number_by limits (Some d) n l m e = read_by limits (as_integer d) n e

sizes_by : (o : Options) → o.channel_size ≤ 500 → o.query_size ≤ 500 → 1 ≤ o.most_queries → o.most_queries ≤ 50 → size_fault o ≡ None
sizes_by o c q least most = grind (arith, nat_tests, c, q, least, most)

-- the options that a table gives are those of a setup
no_size_fault : {t : Members} (o : Options) → AreOptions t o → size_fault o ≡ None
no_size_fault {t} o are =
    let queries = number_by (limits_of MaxQueryBuffers) (value_at MaxQueryBuffers t) o.most_queries (omega arith) (omega arith) are.most_queries in
    sizes_by o (number_by (limits_of ChanBufferSize) (value_at ChanBufferSize t) o.channel_size (omega arith) (omega arith) are.channel_size).1
    (number_by (limits_of QueryBufferSize) (value_at QueryBufferSize t) o.query_size (omega arith) (omega arith) are.query_size).1 queries.0 queries.1

abbrev sized : List (List ℕ) → Option SetupFault → Option SetupFault
sized channels sizes = if nat_lt 100 (length channels) then Some TooManyChannels else first_fault (order_fault 0 channels) sizes

-- with the default options the same is wrong
same_fault : (channels : List (List ℕ)) (o : Options) (fault : SetupFault) → size_fault o ≡ None → fault_of channels o ≡ Some fault → fault_of channels default_options ≡ Some fault
same_fault channels o fault none e = sym (ap (sized channels) none) ∙ e

-- the channels are not left out
nothing_by : (channels : List (List ℕ)) (o : Options) (fault : SetupFault) → size_fault o ≡ None → [] ≡ channels → fault_of channels o ≡ Some fault → ⊥
nothing_by channels o fault none e f =
    let empty = ap (λ cs. fault_of cs o) e ∙ f in
    cc (sym none ∙ empty)

-- a fault is found in the names of channels that are read, if no setup has them
pub names_found : (t : Members) (fault : SetupFault) (is : IsSetupFault t fault) → is_some (wrong_names (Some is.channels)) ≡ true
names_found t fault is = ap (λ (f : Option SetupFault). is_some (option_map Setup f)) (same_fault is.channels is.options fault (no_size_fault is.options is.sized) is.refused)

pub not_left_out : (t : Members) (fault : SetupFault) (is : IsSetupFault t fault) → value_at Channels t ≡ None → ⊥
not_left_out t fault is e = nothing_by is.channels is.options fault (no_size_fault is.options is.sized) (same_Some [] is.channels (sym (ap channels_in e) ∙ is.named)) is.refused
