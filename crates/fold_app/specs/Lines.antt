-- What the lines of an input are.
use Rattle.std.specs.Prelude.{ℕ, Bool, not, ◌&&◌, if◌then◌else◌, ◌==◌, nat_le, List, [], ◌∷◌, Option, Some, None, Result, Ok, Err}
use Rattle.std.specs.List.{list_all}
use Rattle.hex.specs.Hex.{decode_of}

-- a byte at the front of the first line
abbrev pub add_byte : ℕ → List (List ℕ) → List (List ℕ)
add_byte b [] = (b ∷ []) ∷ []
add_byte b (line ∷ lines) = (b ∷ line) ∷ lines

-- the lines of an input: each ends at its LF, which the last one may lack
abbrev pub lines_of : List ℕ → List (List ℕ)
lines_of [] = []
lines_of (b ∷ rest) = if b == 10 then [] ∷ lines_of rest else add_byte b (lines_of rest)

-- no upper-case letter of a hex digit
abbrev pub is_lower : ℕ → Bool
is_lower b = not (nat_le 65 b && nat_le b 70)

-- the value of what went well, and nothing of a fault
abbrev pub of_result : {A E : Type 0} → Result A E → Option A
of_result (Ok a) = Some a
of_result (Err e) = None

-- the bytes of an even number of lower-case hex digits
unfoldable pub hex_bytes : List ℕ → Option (List ℕ)
hex_bytes line = if list_all is_lower line then of_result (decode_of line) else None
