-- A journal's format: what a file stands for. What is saved, and which changes there are, is left open.
use Rattle.std.specs.Prelude.{◌≡◌, ℕ, zero, suc, ◌+◌, ◌<◌, ◌⊎◌, ◌==◌, Bool, true, false, ◌&&◌, ◌||◌, if◌then◌else◌, nat_lt, List, [], ◌∷◌, ◌++◌, length, take, drop, Option, Some, None, Result, Ok, Err}
use Rattle.std.specs.Int.{w32, to_be_bytes}
use Rattle.wire_bytes.specs.Fields.{Reading, number_to}
use Rattle.wire_bytes.specs.declared.wire_fault.WireFault.{WireFault}
use Rattle.stable_store.specs.declared.store_fault.StoreFault.{StoreFault}
use Rattle.stable_store.specs.declared.store_fault.StoreFault.TheVariants.{NotAStore, Version, Damaged}
use Rattle.journal_store.specs.declared.find.TheConstants.{PAYLOAD_LIMIT}

-- RBSTOR
abbrev pub name : List ℕ
name = 82 ∷ 66 ∷ 83 ∷ 84 ∷ 79 ∷ 82 ∷ []

-- 02
abbrev pub version : List ℕ
version = 48 ∷ 50 ∷ []

-- 01, in a journal from before clients had names
abbrev pub older_version : List ℕ
older_version = 48 ∷ 49 ∷ []

-- what a new journal begins with
abbrev pub header : List ℕ
header = name ++ version

-- the greatest length of a payload
abbrev pub payload_limit : ℕ
payload_limit = PAYLOAD_LIMIT

-- a file begins with these bytes
abbrev pub begins : List ℕ → List ℕ → Bool
begins [] file = true
begins (x ∷ xs) [] = false
begins (x ∷ xs) (y ∷ file) = (x == y) && begins xs file

-- what follows a name begins with a version that can be read
abbrev pub has_version : List ℕ → Bool
has_version behind = begins version behind || begins older_version behind

-- how a change is read, which changes may follow a state, and the state after them
pub record Payload (S C : Type 0) : Type 0 where
  pub taken : Reading C
  pub may : S → C → Bool
  pub changed : S → C → S

module _ {S C : Type 0} (p : Payload S C) where
  -- the change that these bytes are, if they are exactly one
  abbrev pub exact : ℕ → Result (C × ℕ) WireFault → Option C
  exact n (Ok r) = if r.1 == n then Some r.0 else None
  exact n (Err e) = None

  -- the state after a change that may follow, and how long its payload is
  abbrev pub followed : S → ℕ → Option C → Option (S × ℕ)
  followed s n None = None
  followed s n (Some c) = if p.may s c then Some (p.changed s c, n) else None

  -- the same for a payload of this many bytes, if it fits in the file with a gate after it
  abbrev pub payload_read : S → List ℕ → ℕ → Option (S × ℕ)
  payload_read s body n = if nat_lt n (length body) then followed s n (exact n (p.taken (take n body))) else None

  -- the same after a length that was read
  abbrev pub sized_read : S → List ℕ → Result (ℕ × ℕ) WireFault → Option (S × ℕ)
  sized_read s rest (Ok r) = payload_read s (drop 4 rest) r.0
  sized_read s rest (Err e) = None

  -- the record behind an open gate: the state after it and how long its payload is, or nothing if it is no record
  unfoldable pub record_read : S → List ℕ → Option (S × ℕ)
  record_read s rest = sized_read s rest (number_to w32 payload_limit rest)

  -- what is found after a record, or the damage at its gate
  abbrev pub goes_to : ℕ → Option (S × ℕ) → (S → ℕ → Result S StoreFault) → Result S StoreFault
  goes_to place None next = Err (Damaged place)
  goes_to place (Some r) next = next r.0 r.1

  -- The state after the open records from here on, up to the first closed gate, which is a 0. The first byte is at this
  -- place of the file, and this many bytes belong to a record that was read.
  abbrev pub scan : List ℕ → S → ℕ → ℕ → Result S StoreFault
  scan [] s place skip = Err (Damaged place)
  scan (b ∷ rest) s place (suc skip) = scan rest s (suc place) skip
  scan (gate ∷ rest) s place zero = if gate == 0 then Ok s else goes_to place (record_read s rest) (λ t n. scan rest t (suc place) (4 + n))

  -- what a file stands for, or why it is refused
  abbrev pub found : S → List ℕ → Result S StoreFault
  found start file =
      if nat_lt (length file) 9 then Err NotAStore
      else (if begins name file then (if has_version (drop 6 file) then scan (drop 8 file) start 8 0 else Err Version) else Err NotAStore)

  -- a length, this many bytes that are one change, and more after them
  pub record IsPayload (rest : List ℕ) (c : C) (n : ℕ) : Type 0 where
    pub sized : number_to w32 payload_limit rest ≡ Ok (n, 4)
    pub room : n < length (drop 4 rest)
    pub one : p.taken (take n (drop 4 rest)) ≡ Ok (c, n)

  -- up to this place the file is a header and open records, which lead to this state, and the next gate is there
  pub record Reached (start : S) (file : List ℕ) (s : S) (place : ℕ) : Type 0 where
    pub within : place < length file
    pub leads : (gate : ℕ) (rest : List ℕ) → found start (take place file ++ gate ∷ rest) ≡ scan (gate ∷ rest) s place 0

  -- a file that stands for this, with its closed gate at this place; what follows the gate has no meaning
  pub record AtRest (start : S) (file : List ℕ) (s : S) (place : ℕ) : Type 0 where
    pub front : List ℕ
    pub behind : List ℕ
    pub file_is : file ≡ front ++ 0 ∷ behind
    pub place_is : length front ≡ place
    pub leads : (gate : ℕ) (rest : List ℕ) → found start (front ++ gate ∷ rest) ≡ scan (gate ∷ rest) s place 0

  -- a file that stands for this or for that
  abbrev pub StandsForOne : S → S → S → List ℕ → Type 0
  StandsForOne start s t file = (found start file ≡ Ok s) ⊎ (found start file ≡ Ok t)

  -- a file that opens as an empty store, or is refused
  abbrev pub IsEmptyOrRefused : S → List ℕ → Type 0
  IsEmptyOrRefused start file =
      (found start file ≡ Ok start)
      ⊎ ((found start file ≡ Err NotAStore) ⊎ ((found start file ≡ Err Version) ⊎ (found start file ≡ Err (Damaged 8))))

-- the length, a payload and a closed gate
abbrev pub staged : List ℕ → List ℕ
staged payload = to_be_bytes w32 (length payload) ++ (payload ++ 0 ∷ [])
