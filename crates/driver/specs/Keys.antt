-- The keys by which channels are joined.
use Rattle.std.specs.Prelude.{◌≡◌, ◌≤◌, ◌<◌, ◌+◌, ◌&&◌, ℕ, Bool, false, codes, nat_eq, nat_le, not, if◌then◌else◌, List, [], ◌∷◌, ◌++◌, drop, filter, length}
use Rattle.std.specs.List.{list_all, list_any}
use Rattle.irc_line.specs.Lines.{Parts, parameter}
use Rattle.irc_line.specs.Names.{is_channel, same_bytes, same_name}
use Rattle.buffer_machine.specs.Messages.{has_command, is_own}
use Rattle.client_gate.specs.Words.{pieces}
use Rattle.driver.specs.declared.key_ring.TheConstants.{MOST_KEYS}

-- a channel and its key
pub record KeyOf : Type 0 where
  pub channel : List ℕ
  pub key : List ℕ

-- the keys by which channels were joined, and those in JOINs that were sent
pub record Keys : Type 0 where
  pub known : List KeyOf
  pub tried : List KeyOf

-- none are known or tried
abbrev pub no_keys : Keys
no_keys = record { known = []; tried = [] }

-- the key of a channel: the first one for it; empty if there is none
abbrev pub key_in : List ℕ → List KeyOf → List ℕ
key_in channel [] = []
key_in channel (known ∷ keys) = if same_name channel known.channel then known.key else key_in channel keys

-- these keys without those of a channel
abbrev pub without : List ℕ → List KeyOf → List KeyOf
without channel keys = filter (λ known. not (same_name channel known.channel)) keys

-- these keys with room for one more: if the list is full, the oldest is dropped
abbrev pub with_room : List KeyOf → List KeyOf
with_room keys = if nat_le MOST_KEYS (length keys) then drop 1 keys else keys

-- a channel was joined by a key: it is the newest
abbrev pub with_key : List ℕ → List ℕ → List KeyOf → List KeyOf
with_key channel key keys = with_room (without channel keys) ++ record { channel = channel; key = key } ∷ []

-- a byte that a key may contain: no space, and no comma
abbrev pub is_key_byte : ℕ → Bool
is_key_byte byte = not (nat_eq byte 32) && not (nat_eq byte 44)

-- a key that can be one of several in a JOIN: it is not empty, and begins with no colon
abbrev pub is_key : List ℕ → Bool
is_key [] = false
is_key (byte ∷ key) = not (nat_eq byte 58) && list_all is_key_byte (byte ∷ key)

-- each of these channels with the key at its place, if there is one
abbrev pub pairs : List (List ℕ) → List (List ℕ) → List KeyOf
pairs [] keys = []
pairs (channel ∷ channels) [] = []
pairs (channel ∷ channels) (key ∷ keys) = record { channel = channel; key = key } ∷ pairs channels keys

-- a channel's name, and a key
abbrev pub is_pair : KeyOf → Bool
is_pair pair = is_channel pair.channel && is_key pair.key

-- a line joins the channels of a list with commas, each by the key at its place in another list (RFC 2812, 3.2.1)
abbrev pub pairs_of : Parts → List KeyOf
pairs_of line = pairs (pieces 44 (parameter 0 line)) (pieces 44 (parameter 1 line))

-- the channels that a line joins by keys, if it is a JOIN
abbrev pub told_by : Parts → List KeyOf
told_by line = if has_command (codes "JOIN") line then filter is_pair (pairs_of line) else []

-- these keys, after further channels are joined by keys in turn
abbrev pub learnt_from : List KeyOf → List KeyOf → List KeyOf
learnt_from [] keys = keys
learnt_from (pair ∷ more) keys = learnt_from more (with_key pair.channel pair.key keys)

-- these keys after a line goes to the server
abbrev pub learnt_by : Parts → List KeyOf → List KeyOf
learnt_by line keys = learnt_from (told_by line) keys

-- a line goes to the server: the keys in it are tried
abbrev pub tried_by : Parts → Keys → Keys
tried_by line keys = record keys { tried = learnt_by line keys.tried }

-- a channel was joined by this key, if it was tried by one
abbrev pub known_by : List ℕ → List ℕ → Keys → Keys
known_by channel [] keys = keys
known_by channel (byte ∷ key) keys = record keys { known = with_key channel (byte ∷ key) keys.known }

-- a channel was joined: the key that was tried, if there was one, is the channel's
abbrev pub joined_by : List ℕ → Keys → Keys
joined_by channel keys = known_by channel (key_in channel keys.tried) keys

-- a channel was not joined because the key was wrong: the key is no longer tried
abbrev pub refused_by : List ℕ → Keys → Keys
refused_by channel keys = record keys { tried = without channel keys.tried }

-- the server says that a key was wrong (RFC 2812, 5.2: ERR_BADCHANNELKEY)
abbrev pub is_bad_key : Parts → Bool
is_bad_key line = same_bytes line.command (codes "475")

-- the keys that are known after a line from the server, for the user with this nick
abbrev pub keys_heard : List ℕ → Parts → Keys → Keys
keys_heard nick line keys =
    if is_own (codes "JOIN") nick line then joined_by (parameter 0 line) keys
    else if is_bad_key line then refused_by (parameter 1 line) keys
    else keys

-- a key, or another if it is empty
abbrev pub or_other : List ℕ → List ℕ → List ℕ
or_other [] other = other
or_other (byte ∷ key) other = byte ∷ key

-- the key by which a channel is joined again: the one by which it was last joined, or else its key in this list
abbrev pub key_for : List KeyOf → List ℕ → List KeyOf → List ℕ
key_for known channel keys = or_other (key_in channel known) (key_in channel keys)

-- and after these lines
unfoldable pub learnt_all : List Parts → List KeyOf → List KeyOf
learnt_all [] keys = keys
learnt_all (line ∷ lines) keys = learnt_all lines (learnt_by line keys)

-- a key is of this channel
abbrev pub is_of : List ℕ → KeyOf → Bool
is_of channel known = same_name channel known.channel

-- This channel comes after some and before others of those that a line joins by keys; no later one is the same, and
-- there are no more of these than a line of IRC has room for.
pub record IsLast (line : Parts) (before : List KeyOf) (pair : KeyOf) (later : List KeyOf) : Type 0 where
  pub told : told_by line ≡ before ++ pair ∷ later
  pub last : list_any (is_of pair.channel) later ≡ false
  pub few : length later < 256

-- Whatever lines go to the server: at most 256 keys are tried. After a line that joins channels by keys, the key at a
-- channel's last place in it is the one that is tried; other channels' keys stay as long as there is room. When the
-- channel is joined by it the key is known, and stays so as others are joined, as long as there is room; if it was
-- wrong, what is known stays, also when the channel is joined without a key.
pub record KeysAreLearnt : Type 0 where
  pub bounded : (lines : List Parts) → length (learnt_all lines []) ≤ 256
  pub newest :
      (line : Parts) (before : List KeyOf) (pair : KeyOf) (later keys : List KeyOf) → IsLast line before pair later
      → key_in pair.channel (learnt_by line keys) ≡ pair.key
  pub others :
      (line : Parts) (channel : List ℕ) (keys : List KeyOf) → list_any (is_of channel) (told_by line) ≡ false
      → length keys + length (told_by line) ≤ 256 → key_in channel (learnt_by line keys) ≡ key_in channel keys
  pub joined :
      (line : Parts) (before : List KeyOf) (pair : KeyOf) (later : List KeyOf) (keys : Keys) → IsLast line before pair later
      → key_in pair.channel (joined_by pair.channel (tried_by line keys)).known ≡ pair.key
  pub apart :
      (channel other : List ℕ) (keys : Keys) → same_name channel other ≡ false → length keys.known < 256
      → key_in channel (joined_by other keys).known ≡ key_in channel keys.known
  pub refused : (channel : List ℕ) (keys : Keys) → joined_by channel (refused_by channel keys) ≡ refused_by channel keys
  pub stays : (channel : List ℕ) (keys : Keys) → (refused_by channel keys).known ≡ keys.known
