-- Names, folded names, and their order.
use Rattle.std.proofs.Common.{◌≡◌, ℕ, true, ◌&&◌, List, [], ◌∷◌, ◌++◌, length, refl, arith}
use Rattle.std.specs.Prelude.{nat_lt, codes, IsTrue, None}
use Rattle.std.specs.List.{list_all}
use Rattle.std.proofs.lemmas.Bool.Decides.{nat_tests}
use Rattle.irc_line.specs.Names.{is_name, is_name_byte, is_channel, is_content_byte}
use Rattle.irc_line.specs.Lines.{Parts, is_word, is_word_byte, is_line, parts, parameter}
use Rattle.irc_line.proofs.Booleans.{and_left, and_right, and_both}
use Rattle.buffer_machine.specs.Messages.{has_command, is_by, is_own, is_query_line, is_query_name, own_prefix, source, word_bytes}
use Rattle.buffer_machine.specs.declared.message.ChannelWord.{ChannelWord}
use Rattle.buffer_machine.specs.declared.message.ChannelWord.TheVariants.{Join, Part, Names}
use Rattle.irc_line.proofs.Building.{name_word_byte}

name_bytes-word : (name rest : List ℕ) → list_all is_name_byte name ≡ true → list_all is_word_byte rest ≡ true → list_all is_word_byte (name ++ rest) ≡ true
name_bytes-word [] rest e f = f
name_bytes-word (b ∷ name) rest e f = and_both _ _ (name_word_byte b (and_left _ _ e)) (name_bytes-word name rest (and_right _ _ e) f)

longer : (name rest : List ℕ) → nat_lt 0 (length rest) ≡ true → nat_lt 0 (length (name ++ rest)) ≡ true
longer [] rest e = e
longer (b ∷ name) rest e = grind (arith, nat_tests)

name_bytes-content : (name : List ℕ) → list_all is_name_byte name ≡ true → list_all is_content_byte name ≡ true
name_bytes-content [] e = refl
name_bytes-content (b ∷ name) e = and_both _ _ (and_left _ _ (and_left _ _ (and_left _ _ (and_left _ _ e)))) (name_bytes-content name (and_right _ _ e))

-- a command about a channel is a line
pub bare_channel_line : (word : ChannelWord) (name : List ℕ) → IsTrue (is_name name) → IsTrue (is_line (parts None (word_bytes word) (name ∷ [])))
unfolding is_name is_line
bare_channel_line Join name e = name_bytes-content name (and_right _ _ (and_left _ _ e))
bare_channel_line Part name e = name_bytes-content name (and_right _ _ (and_left _ _ e))
bare_channel_line Names name e = name_bytes-content name (and_right _ _ (and_left _ _ e))

-- the prefix of a client of this nick is a word
pub own_prefix_word : (nick : List ℕ) → IsTrue (is_name nick) → IsTrue (is_word (own_prefix nick))
unfolding is_name
own_prefix_word nick e =
    and_both _ _ (longer nick (codes "!bouncer@local") refl) (name_bytes-word nick (codes "!bouncer@local") (and_right _ _ (and_left _ _ e)) refl)

-- a channel's name is a name
pub own_named : (word nick : List ℕ) (line : Parts) → is_own word nick line ≡ true → is_name (parameter 0 line) ≡ true
unfolding is_channel
own_named word nick line e = and_left (is_name (parameter 0 line)) _ (and_right (has_command word line && is_by nick line) (is_channel (parameter 0 line)) e)

-- the sender of a query line has a name
pub query_line_named : (nick : List ℕ) (line : Parts) → is_query_line nick line ≡ true → is_name (source line) ≡ true
query_line_named nick line e = and_left _ _ (and_right _ (is_query_name (source line)) e)
