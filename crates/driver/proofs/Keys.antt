-- What is known of the keys of channels, whatever lines go to the server.
use Rattle.std.proofs.Common.{◌≡◌, ◌∙◌, ◌++◌, ◌≤◌, ◌<◌, ◌+◌, ℕ, Bool, true, false, not, List, [], ◌∷◌, length, drop, refl, sym, ap, subst, arith}
use Rattle.std.specs.Prelude.{◌&&◌, codes, filter, if◌then◌else◌, nat_le}
use Rattle.std.specs.List.{list_all, list_any}
use Rattle.std.proofs.lemmas.Bool.{leb-true}
use Rattle.std.proofs.lemmas.List.{length-append, length-drop}
use Rattle.std.proofs.lemmas.List.Folds.{list_all-append}
use Rattle.irc_line.specs.Lines.{Parts}
use Rattle.buffer_machine.specs.Messages.{has_command}
use Rattle.irc_line.specs.Names.{is_channel, same_name}
use Rattle.driver.specs.Keys.{IsLast, KeyOf, Keys, KeysAreLearnt, is_key, is_of, is_pair, joined_by, key_in, known_by, learnt_from, pairs_of, refused_by, told_by, tried_by, with_key, with_room, without}
use Rattle.driver.proofs.NewestKeys.{fewer, first_none, gone, last_true, learnt_few, newest_of, newest_with, other_than, past_by, rest_none}

-- The key of another channel.

roomy_by : (full : Bool) (keys : List KeyOf) → nat_le 256 (length keys) ≡ full → length keys < 256 → (if full then drop 1 keys else keys) ≡ keys
roomy_by true keys is less = let more = leb-true 256 (length keys) is in absurd (omega (arith, more, less))
roomy_by false keys is less = refl

last_other : (channel : List ℕ) (keys : List KeyOf) (known : KeyOf) → is_of channel known ≡ false → key_in channel (keys ++ known ∷ []) ≡ key_in channel keys
last_other channel [] known none = past_by (is_of channel known) known.key [] none
last_other channel (first ∷ keys) known none = ap (λ (key : List ℕ). if is_of channel first then first.key else key) (last_other channel keys known none)

stays_by : (channel joined : List ℕ) (of : Bool) (known : KeyOf) (keys rest : List KeyOf) → same_name channel joined ≡ false → is_of joined known ≡ of
    → key_in channel rest ≡ key_in channel keys → key_in channel (if not of then known ∷ rest else rest) ≡ key_in channel (known ∷ keys)
stays_by channel joined true known keys rest other is same =
    same ∙ sym (past_by (is_of channel known) known.key (key_in channel keys) (other_than channel joined known.channel other is))
stays_by channel joined false known keys rest other is same = ap (λ (key : List ℕ). if is_of channel known then known.key else key) same

stays : (channel joined : List ℕ) (keys : List KeyOf) → same_name channel joined ≡ false → key_in channel (without joined keys) ≡ key_in channel keys
stays channel joined [] other = refl
stays channel joined (known ∷ keys) other = stays_by channel joined (is_of joined known) known keys (without joined keys) other refl (stays channel joined keys other)

other_with : (channel joined key : List ℕ) (keys : List KeyOf) → same_name channel joined ≡ false → length keys < 256
    → key_in channel (with_key joined key keys) ≡ key_in channel keys
other_with channel joined key keys other less =
    let left = without joined keys in
    let fewer_now = fewer joined keys in
    let roomy : length left < 256 = omega (arith, less, fewer_now) in
    last_other channel (with_room left) (record { channel = joined; key = key }) other
    ∙ ap (key_in channel) (roomy_by (nat_le 256 (length left)) left refl roomy)
    ∙ stays channel joined keys other

room_few : (full : Bool) (keys : List KeyOf) → length (if full then drop 1 keys else keys) ≤ length keys
room_few true keys = subst (λ (count : ℕ). count ≤ length keys) (sym (length-drop 1 keys)) (omega arith)
room_few false keys = omega arith

one_longer : (pair : KeyOf) (keys : List KeyOf) → length (with_key pair.channel pair.key keys) ≤ length keys + 1
one_longer pair keys =
    let left = without pair.channel keys in
    let less = fewer pair.channel keys in
    let roomy = room_few (nat_le 256 (length left)) left in
    subst (λ (count : ℕ). count ≤ length keys + 1) (sym (length-append (with_room left) (record { channel = pair.channel; key = pair.key } ∷ [])))
    (omega (arith, less, roomy))

others_stay : (channel : List ℕ) (told keys : List KeyOf) → list_any (is_of channel) told ≡ false → length keys + length told ≤ 256 → key_in channel (learnt_from told keys) ≡ key_in channel keys
others_stay channel [] keys none few = refl
others_stay channel (pair ∷ more) keys none few =
    let longer = one_longer pair keys in
    others_stay channel more (with_key pair.channel pair.key keys) (rest_none (is_of channel pair) (list_any (is_of channel) more) none) (omega (arith, few, longer))
    ∙ other_with channel pair.channel pair.key keys (first_none (is_of channel pair) (list_any (is_of channel) more) none) (omega (arith, few))

-- A channel is joined by the key that was tried, and not by one that was refused.

and_first : (a b : Bool) → (a && b) ≡ true → a ≡ true
and_first true b is = refl
and_first false b is = absurd (cc is)

passes_if : (passes : Bool) (pair : KeyOf) (rest : List KeyOf) → is_pair pair ≡ passes → list_all is_pair rest ≡ true → list_all is_pair (if passes then pair ∷ rest else rest) ≡ true
passes_if true pair rest is all = ap (λ (b : Bool). b && list_all is_pair rest) is ∙ all
passes_if false pair rest is all = all

all_pass : (told : List KeyOf) → list_all is_pair (filter is_pair told) ≡ true
all_pass [] = refl
all_pass (pair ∷ more) = passes_if (is_pair pair) pair (filter is_pair more) refl (all_pass more)

told_pass_by : (joins : Bool) (told : List KeyOf) → list_all is_pair (if joins then filter is_pair told else []) ≡ true
told_pass_by true told = all_pass told
told_pass_by false told = refl

told_pass : (line : Parts) → list_all is_pair (told_by line) ≡ true
told_pass line = told_pass_by (has_command (codes "JOIN") line) (pairs_of line)

-- a key is not empty
some_key : (line : Parts) (before : List KeyOf) (pair : KeyOf) (later : List KeyOf) → IsLast line before pair later → is_key pair.key ≡ true
some_key line before pair later last =
    let all : list_all is_pair (before ++ pair ∷ later) ≡ true = ap (list_all is_pair) (sym last.told) ∙ told_pass line in
    let both : (list_all is_pair before && list_all is_pair (pair ∷ later)) ≡ true = sym (list_all-append is_pair before (pair ∷ later)) ∙ all in
    let here : (is_pair pair && list_all is_pair later) ≡ true = last_true (list_all is_pair before) (list_all is_pair (pair ∷ later)) both in
    last_true (is_channel pair.channel) (is_key pair.key) (and_first (is_pair pair) (list_all is_pair later) here)

known_is : (channel key : List ℕ) (keys : Keys) → is_key key ≡ true → key_in channel (known_by channel key keys).known ≡ key
known_is channel [] keys is = absurd (cc is)
known_is channel (byte ∷ key) keys is = newest_with channel (byte ∷ key) keys.known

joined_tried : (line : Parts) (before : List KeyOf) (pair : KeyOf) (later : List KeyOf) (keys : Keys) → IsLast line before pair later
    → key_in pair.channel (joined_by pair.channel (tried_by line keys)).known ≡ pair.key
joined_tried line before pair later keys last =
    let tried : key_in pair.channel (tried_by line keys).tried ≡ pair.key = newest_of line before pair later keys.tried last in
    ap (λ (key : List ℕ). key_in pair.channel (known_by pair.channel key (tried_by line keys)).known) tried
    ∙ known_is pair.channel pair.key (tried_by line keys) (some_key line before pair later last)

known_apart : (channel other key : List ℕ) (keys : Keys) → same_name channel other ≡ false → length keys.known < 256 → key_in channel (known_by other key keys).known ≡ key_in channel keys.known
known_apart channel other [] keys apart less = refl
known_apart channel other (byte ∷ key) keys apart less = other_with channel other (byte ∷ key) keys.known apart less

none_in : (channel : List ℕ) (keys : List KeyOf) → list_any (is_of channel) keys ≡ false → key_in channel keys ≡ []
none_in channel [] none = refl
none_in channel (known ∷ keys) none =
    past_by (is_of channel known) known.key (key_in channel keys) (first_none (is_of channel known) (list_any (is_of channel) keys) none)
    ∙ none_in channel keys (rest_none (is_of channel known) (list_any (is_of channel) keys) none)

refused_stays : (channel : List ℕ) (keys : Keys) → joined_by channel (refused_by channel keys) ≡ refused_by channel keys
refused_stays channel keys =
    ap (λ (key : List ℕ). known_by channel key (refused_by channel keys)) (none_in channel (without channel keys.tried) (gone channel keys.tried))

pub keys_are_learnt : KeysAreLearnt
keys_are_learnt = record {
  bounded = λ lines. learnt_few lines [] (omega (arith));
  newest = λ line before pair later keys last. newest_of line before pair later keys last;
  others = λ line channel keys none few. others_stay channel (told_by line) keys none few;
  joined = λ line before pair later keys last. joined_tried line before pair later keys last;
  apart = λ channel other keys apart less. known_apart channel other (key_in other keys.tried) keys apart less;
  refused = λ channel keys. refused_stays channel keys;
  stays = λ channel keys. refl;
}
