-- Lower-case hex digits, as they are decoded. Nothing here need be believed: `hex_bytes` gives the result.
use Rattle.std.specs.Prelude.{ℕ, ◌+◌, ◌-◌, ◌*◌, Bool, ◌&&◌, ◌||◌, if◌then◌else◌, nat_le, List, [], ◌∷◌}

-- 0 to 9 or a to f
abbrev pub is_digit : ℕ → Bool
is_digit b = (nat_le 48 b && nat_le b 57) || (nat_le 97 b && nat_le b 102)

-- the value of a digit
abbrev pub digit_value : ℕ → ℕ
digit_value b = if nat_le 97 b then b - 87 else b - 48

-- the bytes of pairs of digits
abbrev pub bytes_of : List ℕ → List ℕ
bytes_of [] = []
bytes_of (high ∷ []) = []
bytes_of (high ∷ low ∷ rest) = (digit_value high * 16 + digit_value low) ∷ bytes_of rest
