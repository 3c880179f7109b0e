-- A folded name begins like a channel's name where the name itself does.
use Rattle.std.proofs.Common.{◌≡◌, ℕ, Bool, true, false, ◌&&◌, ◌||◌, List, [], ◌∷◌, length, refl, ◌∙◌, arith, sym, ap}
use Rattle.std.specs.Prelude.{◌==◌, nat_le}
use Rattle.std.specs.List.{list_all}
use Rattle.std.proofs.lemmas.Bool.Decides.{nat_tests}
use Rattle.std.proofs.lemmas.List.{length-map}
use Rattle.irc_line.specs.Names.{fold_byte, fold_name, is_name, is_name_byte, is_channel}
use Rattle.irc_line.specs.Keys.{at_key}
use Rattle.irc_line.proofs.Booleans.{and_left, and_right, and_both, not_true}
use Rattle.buffer_machine.specs.Messages.{is_query_name}
use Rattle.irc_line.proofs.Order.{key_is}

folded-name_byte : (b : ℕ) → is_name_byte b ≡ true → is_name_byte (fold_byte b) ≡ true
folded-name_byte b e = grind (arith, nat_tests)

folded-name_bytes : (name : List ℕ) → list_all is_name_byte name ≡ true → list_all is_name_byte (fold_name name) ≡ true
folded-name_bytes [] e = refl
folded-name_bytes (b ∷ name) e = and_both _ _ (folded-name_byte b (and_left _ _ e)) (folded-name_bytes name (and_right _ _ e))

-- the bytes that channels' names begin with fold to themselves, and no other byte folds to one of
-- them
abbrev begins : ℕ → Bool
begins b = b == 35 || b == 38 || b == 43 || b == 33

begins-folded : (b : ℕ) → begins (fold_byte b) ≡ begins b
begins-folded b = grind (arith, nat_tests)

no_colon-folded : (b : ℕ) → (fold_byte b == 58) ≡ (b == 58)
no_colon-folded b = grind (arith, nat_tests)

folded-name : (b : ℕ) (name : List ℕ) → is_name (b ∷ name) ≡ true → is_name (fold_name (b ∷ name)) ≡ true
unfolding is_name
folded-name b name e =
    let sizes = and_left (nat_le 1 (length (b ∷ name)) && nat_le (length (b ∷ name)) 64) _ (and_left _ _ e) in
    let bytes = and_right (nat_le 1 (length (b ∷ name)) && nat_le (length (b ∷ name)) 64) _ (and_left _ _ e) in
    and_both _ _ (and_both _ _ (rw length-map sizes) (folded-name_bytes (b ∷ name) bytes)) (rw no_colon-folded (and_right _ _ e))

-- the key of a name is a channel's where the name is
pub folded-channel : (name : List ℕ) → is_name name ≡ true → is_channel (fold_name name) ≡ is_channel name
unfolding is_channel
folded-channel [] e = refl
folded-channel (b ∷ name) e = rw (folded-name b name e, e, begins-folded b) refl

pub name_of_channel : (name : List ℕ) → is_channel name ≡ true → is_name name ≡ true
unfolding is_channel
name_of_channel name e = and_left _ _ e

pub channel-key : (name : List ℕ) → is_channel name ≡ true → is_channel (fold_name name) ≡ true
channel-key name e = folded-channel name (name_of_channel name e) ∙ e

pub query-key : (name : List ℕ) → is_query_name name ≡ true → is_channel (fold_name name) ≡ false
query-key name e = folded-channel name (and_left _ _ e) ∙ not_true (is_channel name) (and_right (is_name name) _ e)

-- a query has no channel's key
pub query_apart : (key name : List ℕ) (b : Bool) → at_key key name ≡ b → is_channel key ≡ true → is_query_name name ≡ true → b ≡ false
query_apart key name true e c q = sym c ∙ (ap is_channel (key_is key name e) ∙ query-key name q)
query_apart key name false e c q = refl
