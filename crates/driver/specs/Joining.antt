-- The line that joins channels, some of them by keys.
use Rattle.std.specs.Prelude.{◌≡◌, ◌≤◌, ℕ, ◌+◌, ◌-◌, Bool, true, nat_lt, codes, List, [], ◌∷◌, ◌++◌, drop, length}
use Rattle.driver.specs.declared.join_line.TheConstants.{MOST_BYTES, WORD}

-- the channels that have a key, their keys, and the other channels, with a comma before each
pub record Joined : Type 0 where
  pub keyed : List ℕ
  pub keys : List ℕ
  pub plain : List ℕ

-- none
abbrev pub no_channels : Joined
no_channels = record { keyed = []; keys = []; plain = [] }

-- one more channel, by a key, or without a key if it is empty
abbrev pub with_channel : List ℕ → List ℕ → Joined → Joined
with_channel channel [] line = record line { plain = line.plain ++ 44 ∷ channel }
with_channel channel (byte ∷ key) line = record line { keyed = line.keyed ++ 44 ∷ channel; keys = line.keys ++ 44 ∷ byte ∷ key }

-- keys after a space, if there are any
abbrev pub key_text : List ℕ → List ℕ
key_text [] = []
key_text (comma ∷ keys) = 32 ∷ keys

-- the line that joins these channels, without its end
abbrev pub join_text : Joined → List ℕ
join_text line = codes "JOIN " ++ drop 1 (line.keyed ++ line.plain) ++ key_text line.keys

-- the line with its end
abbrev pub join_bytes : Joined → List ℕ
join_bytes line = join_text line ++ 13 ∷ 10 ∷ []

-- how many bytes a key takes, with a comma
abbrev pub key_size : List ℕ → ℕ
key_size [] = 0
key_size (byte ∷ key) = length key + 2

-- one more channel fits, with its key
abbrev pub fits_in : Joined → List ℕ → List ℕ → Bool
fits_in line channel key =
    nat_lt (length line.keyed + length line.plain + length line.keys + (length channel + key_size key)) (MOST_BYTES - WORD)

-- A line into which a channel fits has no more bytes with it than a line may have.
abbrev pub JoinsFit : Type 0
JoinsFit =
    (line : Joined) (channel key : List ℕ) → fits_in line channel key ≡ true
    → length (join_text (with_channel channel key line)) ≤ 510
