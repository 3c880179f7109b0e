-- The limits of a setup hold exactly if nothing is wrong with it.
use Rattle.std.proofs.Common.{◌≡◌, ℕ, ◌+◌, Bool, true, false, ◌&&◌, if◌then◌else◌, List, [], ◌∷◌, length, Option, Some, None, IsTrue, refl, sym, ap, ◌∙◌, arith}
use Rattle.std.specs.Prelude.{is_none, nat_le, nat_lt}
use Rattle.std.specs.List.{list_all}
use Rattle.std.proofs.lemmas.Bool.Decides.{nat_tests}
use Rattle.irc_line.specs.Names.{is_channel}
use Rattle.irc_line.specs.Keys.{is_below_all, are_rising}
use Rattle.buffer_commands.specs.declared.options.Options.{Options}
use Rattle.buffer_commands.specs.declared.setup_fault.SetupFault.{SetupFault}
use Rattle.buffer_commands.specs.Settings.{are_sizes, within_limits, order_fault, size_fault, first_fault, fault_of}

and_false : (b : Bool) → false ≡ (b && false)
and_false true = refl
and_false false = refl

order_by : (a b : Bool) (rest : Option SetupFault) (f g : SetupFault) (x y : Bool) → is_none rest ≡ (x && y) → is_none (if a then (if b then rest else Some f) else Some g) ≡ ((a && x) && (b && y))
order_by true true rest f g x y h = h
order_by true false rest f g x y h = and_false x
order_by false b rest f g x y h = refl

-- no name is refused where all are channels and rise
order_limits : (place : ℕ) (cs : List (List ℕ)) → is_none (order_fault place cs) ≡ (list_all is_channel cs && are_rising cs)
order_limits place [] = refl
order_limits place (c ∷ cs) = order_by (is_channel c) (is_below_all c cs) (order_fault (place + 1) cs) _ _ (list_all is_channel cs) (are_rising cs) (order_limits (place + 1) cs)

-- no size is refused where all are within their limits
size_limits : (o : Options) → is_none (size_fault o) ≡ are_sizes o
size_limits o = grind (arith, nat_tests)

first_by : (many : Bool) (a b : Option SetupFault) (f : SetupFault) (few x y : Bool) → is_none (if many then Some f else None) ≡ few → is_none a ≡ x → is_none b ≡ y → is_none (if many then Some f else first_fault a b) ≡ ((few && x) && y)
first_by true a b f few x y h i j = grind (arith, h)
first_by false (Some e) b f few x y h i j = grind (arith, h, i)
first_by false None b f few x y h i j = grind (arith, h, i, j)

count_limit : (n : ℕ) (f : SetupFault) → is_none (if nat_lt 100 n then Some f else None) ≡ nat_le n 100
count_limit n f = grind (arith, nat_tests)

-- nothing is wrong exactly where all limits hold
pub limits_by_fault : (channels : List (List ℕ)) (options : Options) → is_none (fault_of channels options) ≡ within_limits channels options
limits_by_fault channels options =
    first_by (nat_lt 100 (length channels)) (order_fault 0 channels) (size_fault options) _ (nat_le (length channels) 100) (list_all is_channel channels && are_rising channels) (are_sizes options)
    (count_limit (length channels) _) (order_limits 0 channels) (size_limits options)

-- if nothing is wrong the limits hold
pub no_fault : (channels : List (List ℕ)) (options : Options) → fault_of channels options ≡ None → IsTrue (within_limits channels options)
no_fault channels options e = sym (limits_by_fault channels options) ∙ ap (λ (o : Option SetupFault). is_none o) e

-- where something is wrong they do not
pub one_fault : (channels : List (List ℕ)) (options : Options) (fault : SetupFault) → fault_of channels options ≡ Some fault → false ≡ within_limits channels options
one_fault channels options fault e = sym (ap (λ (o : Option SetupFault). is_none o) e) ∙ limits_by_fault channels options
