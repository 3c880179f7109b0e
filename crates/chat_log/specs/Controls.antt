-- The characters that a terminal obeys, in text that is UTF-8 or nearly so.
use Rattle.std.specs.Prelude.{ℕ, zero, suc, Bool, true, false, ◌&&◌, ◌||◌, if◌then◌else◌, ◌==◌, nat_le, nat_lt, List, [], ◌∷◌, ◌++◌, slice_index}

-- a control character: C0 (0 to 31), DEL, or C1 (128 to 159). A byte with such a number is one too, if it belongs to no
-- character
abbrev pub is_control : ℕ → Bool
is_control c = nat_lt c 32 || (nat_le 127 c && nat_lt c 160)

-- a byte that may follow the first of a character (RFC 3629, 3)
abbrev pub is_tail_byte : ℕ → Bool
is_tail_byte b = nat_le 128 b && nat_lt b 192

-- the bytes begin with n of these
abbrev pub has_tail : ℕ → List ℕ → Bool
has_tail zero bytes = true
has_tail (suc n) [] = false
has_tail (suc n) (b ∷ rest) = is_tail_byte b && has_tail n rest

-- how many of these follow the first byte of a character; none if the byte begins no character
abbrev pub tail_wanted : ℕ → ℕ
tail_wanted b =
    if nat_lt b 194 then 0 else
    if nat_lt b 224 then 1 else
    if nat_lt b 240 then 2 else
    if nat_lt b 245 then 3 else 0

-- this second byte may follow this first one: the encoding is the shortest, and the character is no surrogate, is
-- within Unicode (RFC 3629, 4), and is no control character
abbrev pub may_follow : ℕ → ℕ → Bool
may_follow b c =
    if b == 194 || b == 224 then nat_le 160 c else
    if b == 237 then nat_lt c 160 else
    if b == 240 then nat_le 144 c else
    if b == 244 then nat_lt c 144 else true

-- how many bytes follow this one in its character; none if it is the whole character, or if there is no character or
-- only a control character
abbrev pub tail_length : ℕ → List ℕ → ℕ
tail_length b rest =
    if has_tail (tail_wanted b) rest && may_follow b (slice_index rest 0) then tail_wanted b else 0

-- these bytes, of which the first n belong to a character that is no control character, contain one
abbrev pub has_control_behind : ℕ → List ℕ → Bool
has_control_behind n [] = false
has_control_behind (suc n) (b ∷ rest) = has_control_behind n rest
has_control_behind zero (b ∷ rest) = is_control b || has_control_behind (tail_length b rest) rest

-- these bytes contain a control character: for one of C1 in two bytes the second is found, which belongs to no other
-- character
unfoldable pub has_control : List ℕ → Bool
has_control bytes = has_control_behind 0 bytes

-- the first of the two bytes of a control character of C1
abbrev pub begins_control : ℕ → List ℕ → Bool
begins_control b [] = false
begins_control b (c ∷ rest) = b == 194 && nat_le 128 c && nat_lt c 160

-- what is printed for a byte that does not continue a character: a control character is one dot, printed for the last
-- of its bytes
abbrev pub first_printed : ℕ → List ℕ → List ℕ
first_printed b rest =
    if begins_control b rest then [] else (if is_control b then 46 else b) ∷ []

-- bytes as they are printed, of which the first n belong to a character that is no control character
abbrev pub printed_behind : ℕ → List ℕ → List ℕ
printed_behind n [] = []
printed_behind (suc n) (b ∷ rest) = b ∷ printed_behind n rest
printed_behind zero (b ∷ rest) = first_printed b rest ++ printed_behind (tail_length b rest) rest

-- bytes as they are printed: each control character is a dot, and all else stays
unfoldable pub printed : List ℕ → List ℕ
printed bytes = printed_behind 0 bytes
