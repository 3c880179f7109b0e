-- Lines (RFC 2812, 2.3.1): the parts of a line, and its one canonical spelling.
use Rattle.std.specs.Prelude.{◌<◌, ◌+◌, unwrap_or, slice_get, vec_capacity, vec_len, ℕ, Bool, true, not, ◌&&◌, ◌||◌, if◌then◌else◌, ◌==◌, nat_le, nat_lt, List, [], ◌∷◌, ◌++◌, length, take, Option, Some, None, refl, codes}
use Rattle.std.specs.List.{list_all, list_any}
use Rattle.std.specs.Global.{Vec}
use Rattle.std.specs.Option.{option_map}
use Rattle.std.specs.Borrow.{Bor}
use Rattle.std.specs.Coded.{Coded, code_by, coded×, coded_list, coded_option, coded_ℕ}
use Rattle.irc_line.specs.Names.{first_is, is_content_byte, same_bytes}
use Rattle.irc_line.specs.Limits.{content_limit, parameter_limit}

-- the parts of a line
pub record Parts : Type 0 where
  pub prefix : Option (List ℕ)
  pub command : List ℕ
  pub parameters : List (List ℕ)

-- parts are stored as the tuple of their fields
abbrev pub parts_code : Coded Parts
parts_code =
    code_by (Option (List ℕ) × (List ℕ × List (List ℕ))) (coded× (coded_option (coded_list coded_ℕ)) (coded× (coded_list coded_ℕ) (coded_list (coded_list coded_ℕ)))) (λ p. (p.prefix, (p.command, p.parameters))) (λ t. record { prefix = t.0; command = t.1.0; parameters = t.1.1 }) (λ _. refl)

-- the record of these parts
abbrev pub parts : Option (List ℕ) → List ℕ → List (List ℕ) → Parts
parts prefix command parameters = record { prefix = prefix; command = command; parameters = parameters }

-- a parameter, the first at 0; no bytes if there is none
abbrev pub parameter : ℕ → Parts → List ℕ
parameter i line = unwrap_or (slice_get line.parameters i) []

-- a line with this prefix
abbrev pub line_of : List ℕ → List ℕ → List (List ℕ) → Parts
line_of prefix command parameters = parts (Some prefix) command parameters

-- a command with a target and a text
abbrev pub message : Option (List ℕ) → List ℕ → List ℕ → List ℕ → Parts
message prefix command target text = parts prefix command (target ∷ text ∷ [])

-- the bytes that a prefix points to, if there is one
abbrev pub lent_prefix : Option (Bor (List ℕ)) → Option (List ℕ)
lent_prefix prefix = option_map (λ x. x.now) prefix

-- What a line may contain

-- no space, NUL, CR or LF
abbrev pub is_word_byte : ℕ → Bool
is_word_byte b = is_content_byte b && not (b == 32)

-- one or more such bytes
abbrev pub is_word : List ℕ → Bool
is_word w = nat_lt 0 (length w) && list_all is_word_byte w

-- a word whose first byte is not a colon
abbrev pub is_middle : List ℕ → Bool
is_middle w = is_word w && not (first_is 58 w)

-- the byte of a letter, A to Z
abbrev pub is_upper_letter : ℕ → Bool
is_upper_letter b = nat_le 65 b && nat_le b 90

-- the byte of a digit, 0 to 9
abbrev pub is_digit : ℕ → Bool
is_digit b = nat_le 48 b && nat_le b 57

-- upper-case letters, at least one, or three digits
abbrev pub is_upper_command : List ℕ → Bool
is_upper_command w = (nat_lt 0 (length w) && list_all is_upper_letter w) || (length w == 3 && list_all is_digit w)

-- none, or a word
abbrev pub is_prefix : Option (List ℕ) → Bool
is_prefix None = true
is_prefix (Some prefix) = is_word prefix

-- middles, and a last one of any bytes but NUL, CR and LF
abbrev pub are_parameters : List (List ℕ) → Bool
are_parameters [] = true
are_parameters (last ∷ []) = list_all is_content_byte last
are_parameters (x ∷ y ∷ rest) = is_middle x && are_parameters (y ∷ rest)

-- the parts of a line, of any length
unfoldable pub is_line : Parts → Bool
is_line p = is_prefix p.prefix && is_upper_command p.command && nat_le (length p.parameters) parameter_limit && are_parameters p.parameters

-- The canonical spelling

-- the commands whose last parameter always gets a colon
abbrev pub is_spoken : List ℕ → Bool
is_spoken command = same_bytes command (codes "PRIVMSG") || same_bytes command (codes "NOTICE") || same_bytes command (codes "TOPIC")

-- this parameter is no middle, so it needs a colon
abbrev pub is_trailing : List ℕ → Bool
is_trailing last = length last == 0 || first_is 58 last || list_any (λ b. b == 32) last

-- whether the last parameter has a colon before it
abbrev pub has_colon : List ℕ → List ℕ → Bool
has_colon command last = is_trailing last || is_spoken command

-- the last parameter of a command, with the space before it
abbrev pub spelled_last : List ℕ → List ℕ → List ℕ
spelled_last command last = if has_colon command last then 32 ∷ 58 ∷ last else 32 ∷ last

-- the parameters of a command, each with one space before it
abbrev pub spelled_parameters : List ℕ → List (List ℕ) → List ℕ
spelled_parameters command [] = []
spelled_parameters command (last ∷ []) = spelled_last command last
spelled_parameters command (x ∷ y ∷ rest) = (32 ∷ x) ++ spelled_parameters command (y ∷ rest)

-- the prefix, with its colon and the space after it
abbrev pub spelled_prefix : Option (List ℕ) → List ℕ
spelled_prefix None = []
spelled_prefix (Some prefix) = 58 ∷ (prefix ++ 32 ∷ [])

-- the canonical spelling of parts
unfoldable pub spelling : Parts → List ℕ
spelling p = spelled_prefix p.prefix ++ p.command ++ spelled_parameters p.command p.parameters

-- the canonical spelling of a prefix that is pointed to, a command and parameters
abbrev pub spelled_parts : Option (Bor (List ℕ)) → List ℕ → List (List ℕ) → List ℕ
spelled_parts prefix command parameters = spelling (parts (lent_prefix prefix) command parameters)

-- a vector has no room for this many more items
abbrev pub LacksRoom : {A : Type 0} → Vec A → ℕ → Type 0
LacksRoom out n = vec_capacity out < vec_len out + n

-- what a line is cut to when it is sent: the first 510 bytes of its spelling, with CR LF
abbrev pub cut_spelling : Parts → List ℕ
cut_spelling p = take content_limit (spelling p) ++ 13 ∷ 10 ∷ []
