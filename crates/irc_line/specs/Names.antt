-- Names, how they are folded (RFC 2812, 2.2 and 2.3.1), and texts.
use Rattle.std.specs.Prelude.{◌≡◌, IsTrue, codes, take, ℕ, ◌+◌, Bool, true, false, not, ◌&&◌, ◌||◌, if◌then◌else◌, ◌==◌, nat_le, List, [], ◌∷◌, map, length}
use Rattle.std.specs.List.{list_all}
use Rattle.irc_line.specs.Limits.{content_limit, name_limit}

-- A to Z become a to z, [ \ ] become { | }, and ~ becomes ^
abbrev pub fold_byte : ℕ → ℕ
fold_byte b = if nat_le 65 b && nat_le b 93 then b + 32 else if b == 126 then 94 else b

-- each byte folded
abbrev pub fold_name : List ℕ → List ℕ
fold_name name = map fold_byte name

-- the same numbers in the same order
abbrev pub same_bytes : List ℕ → List ℕ → Bool
same_bytes [] [] = true
same_bytes [] (y ∷ ys) = false
same_bytes (x ∷ xs) [] = false
same_bytes (x ∷ xs) (y ∷ ys) = x == y && same_bytes xs ys

-- names are the same where they fold to the same bytes
unfoldable pub same_name : List ℕ → List ℕ → Bool
same_name a b = same_bytes (fold_name a) (fold_name b)

-- no NUL, CR or LF
abbrev pub is_content_byte : ℕ → Bool
is_content_byte b = not (b == 0) && not (b == 13) && not (b == 10)

-- no space, comma or byte 7 either
abbrev pub is_name_byte : ℕ → Bool
is_name_byte b = is_content_byte b && not (b == 32) && not (b == 44) && not (b == 7)

-- the bytes begin with this one
abbrev pub first_is : ℕ → List ℕ → Bool
first_is b [] = false
first_is b (x ∷ xs) = x == b

-- the bytes begin with these
abbrev pub begins_with : List ℕ → List ℕ → Bool
begins_with bytes front = same_bytes (take (length front) bytes) front

-- 1 to 64 bytes, the first not a colon
unfoldable pub is_name : List ℕ → Bool
is_name name = nat_le 1 (length name) && nat_le (length name) name_limit && list_all is_name_byte name && not (first_is 58 name)

-- the first byte is #, &, + or !
abbrev pub has_channel_mark : List ℕ → Bool
has_channel_mark name = first_is 35 name || first_is 38 name || first_is 43 name || first_is 33 name

-- a name that begins with #, &, + or !
unfoldable pub is_channel : List ℕ → Bool
is_channel name = is_name name && has_channel_mark name

-- at most 510 bytes, none of them NUL, CR or LF
unfoldable pub is_text : List ℕ → Bool
is_text text = nat_le (length text) content_limit && list_all is_content_byte text

-- what an ACTION begins with: the byte 1, and its word with a space
abbrev pub action_mark : List ℕ
action_mark = 1 ∷ codes "ACTION "

-- these are the bytes that were tested, and they passed the test
abbrev pub IsPassed : (List ℕ → Bool) → List ℕ → List ℕ → Type 0
IsPassed test bytes given = (given ≡ bytes) × IsTrue (test bytes)
