-- The grammar of a content (RFC 2812, 2.3.1), by cases on its bytes, with spaces before it skipped:
-- `[":" prefix SP+] command (SP+ middle)* [SP+ ":" trailing] SP*`
use Rattle.std.specs.Prelude.{◌≡◌, ℕ, ◌-◌, Bool, true, false, not, ◌&&◌, ◌||◌, if◌then◌else◌, ◌==◌, nat_le, nat_lt, List, [], ◌∷◌, ◌++◌, length, Option, Some, None, map}
use Rattle.std.specs.List.{list_all}
use Rattle.irc_line.specs.Names.{is_content_byte}
use Rattle.irc_line.specs.Lines.{Parts, is_digit}

-- SP, the byte 32, which separates the words of a content
abbrev pub is_space : ℕ → Bool
is_space b = b == 32

-- any number of spaces
abbrev pub AreSpaces : List ℕ → Type 0
AreSpaces s = list_all is_space s ≡ true

-- one or more bytes other than space
abbrev pub IsWord : List ℕ → Type 0
IsWord [] = ⊥
IsWord (b ∷ s) = list_all (λ x. not (is_space x)) (b ∷ s) ≡ true

-- a word whose first byte is not a colon
abbrev pub IsMiddle : List ℕ → Type 0
IsMiddle [] = ⊥
IsMiddle (b ∷ s) = ((b == 58) ≡ false) × IsWord (b ∷ s)

-- what follows a command, and the parameters in it
pub data IsTail : List ℕ → List (List ℕ) → Type 0 where
  none : (spaces : List ℕ) → AreSpaces spaces → IsTail spaces []
  trailing : (spaces text : List ℕ) → AreSpaces spaces → IsTail (32 ∷ (spaces ++ 58 ∷ text)) (text ∷ [])
  middle : (spaces word rest : List ℕ) (parameters : List (List ℕ)) → AreSpaces spaces → IsMiddle word → IsTail rest parameters
      → IsTail (32 ∷ (spaces ++ (word ++ rest))) (word ∷ parameters)

-- a letter of either case
abbrev pub is_letter : ℕ → Bool
is_letter b = (nat_le 65 b && nat_le b 90) || (nat_le 97 b && nat_le b 122)

-- a letter in upper case, any other byte as it is
abbrev pub upper : ℕ → ℕ
upper b = if nat_le 97 b && nat_le b 122 then b - 32 else b

-- letters, at least one, or three digits
abbrev pub is_command : List ℕ → Bool
is_command word = (nat_lt 0 (length word) && list_all is_letter word) || (length word == 3 && list_all is_digit word)

-- what comes before a command, and the prefix in it
abbrev pub IsPrefix : List ℕ → Option (List ℕ) → Type 0
IsPrefix s None = s ≡ []
IsPrefix s (Some prefix) = (spaces : List ℕ) × AreSpaces spaces × IsWord prefix × (s ≡ 58 ∷ (prefix ++ 32 ∷ spaces))

-- a content and the line it means
abbrev pub IsLine : List ℕ → Parts → Type 0
IsLine content p =
    (spaces first word rest : List ℕ) × (content ≡ spaces ++ (first ++ (word ++ rest))) × AreSpaces spaces × IsPrefix first p.prefix × (is_command word ≡ true) × (p.command ≡ map upper word) × IsTail rest p.parameters

-- no NUL, CR or LF among them
abbrev pub AreContent : List ℕ → Type 0
AreContent s = list_all is_content_byte s ≡ true

-- the first NUL, CR or LF is at this place, counted from 0
abbrev pub IsFirstBad : List ℕ → ℕ → Type 0
IsFirstBad s place =
    (before rest : List ℕ) × (b : ℕ) × (s ≡ before ++ b ∷ rest) × (length before ≡ place) × AreContent before × (is_content_byte b ≡ false)
