-- What lines may be built of.
use Rattle.std.proofs.Common.{◌≡◌, ℕ, true, not, ◌&&◌, List, [], ◌∷◌, ◌++◌, length, refl, arith, ◌≤◌}
use Rattle.std.specs.Prelude.{nat_le, nat_lt, Option, IsTrue, codes}
use Rattle.std.specs.List.{list_all}
use Rattle.std.proofs.lemmas.Bool.Decides.{nat_tests}
use Rattle.std.proofs.lemmas.List.Folds.{list_all-append}
use Rattle.irc_line.specs.Names.{first_is, is_name, is_name_byte, is_channel, is_text}
use Rattle.irc_line.specs.Lines.{Parts, are_parameters, is_line, is_middle, is_prefix, is_upper_command, is_word, is_word_byte, parts}
use Rattle.irc_line.specs.Grammar.{AreContent}
use Rattle.irc_line.proofs.Booleans.{and_both, and_left, and_right}
use Rattle.irc_line.proofs.Numbers.{le_of, of_le}
use Rattle.irc_line.proofs.Words.{some_length}

pub name_word_byte : (b : ℕ) → is_name_byte b ≡ true → is_word_byte b ≡ true
name_word_byte b h = grind (arith, nat_tests)

name_word_bytes : (w : List ℕ) → list_all is_name_byte w ≡ true → list_all is_word_byte w ≡ true
name_word_bytes [] h = refl
name_word_bytes (x ∷ w) h = and_both (is_word_byte x) _ (name_word_byte x (and_left (is_name_byte x) _ h)) (name_word_bytes w (and_right (is_name_byte x) _ h))

some_byte : (n : ℕ) → nat_le 1 n ≡ true → nat_lt 0 n ≡ true
some_byte n h = grind (arith, nat_tests)

-- a name is a middle, so any parameter of a line may be one
pub name_middle : (name : List ℕ) → IsTrue (is_name name) → IsTrue (is_middle name)
unfolding is_name
name_middle name h =
    let front : (nat_le 1 (length name) && nat_le (length name) 64 && list_all is_name_byte name) ≡ true = and_left _ (not (first_is 58 name)) h in
    let lengths : (nat_le 1 (length name) && nat_le (length name) 64) ≡ true = and_left _ (list_all is_name_byte name) front in
    let bytes : list_all is_name_byte name ≡ true = and_right (nat_le 1 (length name) && nat_le (length name) 64) _ front in
    let some : nat_lt 0 (length name) ≡ true = some_byte (length name) (and_left (nat_le 1 (length name)) _ lengths) in
    and_both (is_word name) _ (and_both (nat_lt 0 (length name)) _ some (name_word_bytes name bytes)) (and_right (nat_le 1 (length name) && nat_le (length name) 64 && list_all is_name_byte name) _ h)

-- a name is a word, so it may be a prefix
pub name_word : (name : List ℕ) → IsTrue (is_name name) → IsTrue (is_word name)
name_word name h = and_left (is_word name) _ (name_middle name h)

-- words that follow one another with nothing between are a word
pub word_append : (a b : List ℕ) → IsTrue (is_word a) → IsTrue (list_all is_word_byte b) → IsTrue (is_word (a ++ b))
word_append [] b h k = cc
word_append (x ∷ a) b h k =
    let bytes : list_all is_word_byte (x ∷ a) ≡ true = and_right (nat_lt 0 (length (x ∷ a))) _ h in
    and_both (nat_lt 0 (length (x ∷ (a ++ b)))) _ (some_length x (a ++ b)) (rw (list_all-append is_word_byte (x ∷ a) b) (and_both (list_all is_word_byte (x ∷ a)) _ bytes k))

-- `nick!bouncer@local` is a prefix
pub member_word : (nick : List ℕ) → IsTrue (is_name nick) → IsTrue (is_word (nick ++ codes "!bouncer@local"))
member_word nick h = word_append nick (codes "!bouncer@local") (name_word nick h) refl

-- a channel's name is a name
pub channel_name : (name : List ℕ) → IsTrue (is_channel name) → IsTrue (is_name name)
unfolding is_channel
channel_name name h = and_left (is_name name) _ h

-- a text is content, so the last parameter of a line may be one
pub text_content : (text : List ℕ) → IsTrue (is_text text) → AreContent text
unfolding is_text
text_content text h = and_right (nat_le (length text) 510) _ h

-- a text has at most 510 bytes
pub text_short : (text : List ℕ) → IsTrue (is_text text) → length text ≤ 510
unfolding is_text
text_short text h = le_of (length text) 510 (and_left (nat_le (length text) 510) _ h)

-- a line with a middle and a last parameter
pub two_line : (prefix : Option (List ℕ)) (command first last : List ℕ) → IsTrue (is_prefix prefix) → IsTrue (is_upper_command command) → IsTrue (is_middle first) → AreContent last
    → IsTrue (is_line (parts prefix command (first ∷ last ∷ [])))
unfolding is_line
two_line prefix command first last p c f l =
    and_both (is_prefix prefix && is_upper_command command && true) _ (and_both (is_prefix prefix && is_upper_command command) _ (and_both (is_prefix prefix) _ p c) refl) (and_both (is_middle first) _ f l)

-- a line with one parameter, the last
pub one_parameter_line : (prefix : Option (List ℕ)) (command last : List ℕ) → IsTrue (is_prefix prefix) → IsTrue (is_upper_command command) → AreContent last
    → IsTrue (is_line (parts prefix command (last ∷ [])))
unfolding is_line
one_parameter_line prefix command last p c l =
    and_both (is_prefix prefix && is_upper_command command && true) _ (and_both (is_prefix prefix && is_upper_command command) _ (and_both (is_prefix prefix) _ p c) refl) l

-- a command to a target with a text
pub message_line : (prefix : Option (List ℕ)) (command target text : List ℕ) → IsTrue (is_prefix prefix) → IsTrue (is_upper_command command) → IsTrue (is_name target) → IsTrue (is_text text)
    → IsTrue (is_line (parts prefix command (target ∷ text ∷ [])))
message_line prefix command target text p c n t = two_line prefix command target text p c (name_middle target n) (text_content text t)

-- the four facts that make a line
pub record Makes (p : Parts) : Type 0 where
  pub prefix : is_prefix p.prefix ≡ true
  pub command : is_upper_command p.command ≡ true
  pub few : length p.parameters ≤ 15
  pub parameters : are_parameters p.parameters ≡ true

few_of : (n : ℕ) → nat_le n 15 ≡ true → n ≤ 15
few_of n h = grind (arith, nat_tests)

pub line_facts : (p : Parts) → IsTrue (is_line p) → Makes p
unfolding is_line
line_facts p h =
    let front : (is_prefix p.prefix && is_upper_command p.command && nat_le (length p.parameters) 15) ≡ true = and_left _ (are_parameters p.parameters) h in
    let named : (is_prefix p.prefix && is_upper_command p.command) ≡ true = and_left _ (nat_le (length p.parameters) 15) front in
    record {
      prefix = and_left _ (is_upper_command p.command) named;
      command = and_right (is_prefix p.prefix) _ named;
      few = few_of (length p.parameters) (and_right (is_prefix p.prefix && is_upper_command p.command) _ front);
      parameters = and_right (is_prefix p.prefix && is_upper_command p.command && nat_le (length p.parameters) 15) _ h;
    }

-- and any four such facts make one
pub line_made : (p : Parts) → Makes p → IsTrue (is_line p)
unfolding is_line
line_made p m =
    and_both (is_prefix p.prefix && is_upper_command p.command && nat_le (length p.parameters) 15) _ (and_both (is_prefix p.prefix && is_upper_command p.command) _ (and_both (is_prefix p.prefix) _ m.prefix m.command) (of_le (length p.parameters) 15 m.few)) m.parameters

-- a line with another prefix is a line
pub line_with_prefix : (prefix : Option (List ℕ)) (p : Parts) → IsTrue (is_line p) → IsTrue (is_prefix prefix) → IsTrue (is_line (parts prefix p.command p.parameters))
line_with_prefix prefix p h k =
    let m = line_facts p h in
    line_made (parts prefix p.command p.parameters) (record { prefix = k; command = m.command; few = m.few; parameters = m.parameters })

-- in a line with two parameters the first is a middle and the second is content
pub two_parameters : (prefix : Option (List ℕ)) (command first last : List ℕ) → IsTrue (is_line (parts prefix command (first ∷ last ∷ []))) → IsTrue (is_middle first) × AreContent last
two_parameters prefix command first last h =
    let m = line_facts (parts prefix command (first ∷ last ∷ [])) h in
    (and_left (is_middle first) _ m.parameters, and_right (is_middle first) _ m.parameters)
