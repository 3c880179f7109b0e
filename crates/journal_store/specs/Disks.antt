-- A disk as plain data: what a crash at this moment may leave of its file, and what calls change of that.
use Rattle.std.specs.Prelude.{◌≡◌, ℕ, ◌+◌, ◌<◌, ◌≤◌, ◌^◌, ◌⊎◌, ◌&&◌, Bool, not, nat_le, max, min, List, [], ◌∷◌, ◌++◌, filter, length, take, drop, get_or}
use Rattle.journal_store.specs.declared.known.Known.{Known}
use Rattle.journal_store.specs.declared.known.Known.TheVariants.{ToGate, ButGate}

-- this many bytes from a place on
pub record Range : Type 0 where
  pub place : ℕ
  pub size : ℕ

-- What a read gives, and what may not be on the disk: the ranges written since the last call of sync, the ranges that a
-- failed sync left and that no write has covered since, where the file's end was when all was last synced, and the
-- least and the greatest length that the file has had since.
pub record DiskState : Type 0 where
  pub bytes : List ℕ
  pub written : List Range
  pub left : List Range
  pub settled : ℕ
  pub least : ℕ
  pub most : ℕ

-- a place that is in none of these ranges
abbrev pub IsOutside : ℕ → List Range → Type 0
IsOutside i [] = Unit {0}
IsOutside i (r ∷ ranges) = ((i < r.place) ⊎ (r.place + r.size ≤ i)) × IsOutside i ranges

-- A file that a crash at this moment may leave. Bytes in a range that was written since the last sync or that a failed
-- one left, or past where the file's end was when all was last synced, may be anything; all others are as a read gives
-- them; the length is within those that the file has had since.
pub record IsImage (s : DiskState) (file : List ℕ) : Type 0 where
  pub no_shorter : s.least ≤ length file
  pub no_longer : length file ≤ s.most
  pub stays : (i : ℕ) → i < length file → i < s.settled → IsOutside i s.written → IsOutside i s.left → get_or file i 0 ≡ get_or s.bytes i 0

-- all of the file is synced: a crash leaves what a read gives
abbrev pub settled_at : List ℕ → DiskState
settled_at bytes = record { bytes = bytes; written = []; left = []; settled = length bytes; least = length bytes; most = length bytes }

-- this many bytes from a place on are being written
abbrev pub writing : ℕ → ℕ → DiskState → DiskState
writing place size s =
    record { bytes = s.bytes; written = record { place = place; size = size } ∷ s.written; left = s.left; settled = s.settled; least = s.least; most = max s.most (place + size) }

-- this range is one of these
abbrev pub IsOneOf : Range → List Range → Type 0
IsOneOf r [] = ⊥
IsOneOf r (x ∷ ranges) = (r ≡ x) ⊎ IsOneOf r ranges

-- the bytes in this range may not be on the disk
abbrev pub IsAtRisk : Range → DiskState → Type 0
IsAtRisk r s = IsOneOf r s.written ⊎ IsOneOf r s.left

-- a crash in the one state leaves only files that it may leave in the other, and no other ranges are at risk
pub record Within (s bound : DiskState) : Type 0 where
  pub leaves : (file : List ℕ) → IsImage s file → IsImage bound file
  pub risks : (r : Range) → IsAtRisk r s → IsAtRisk r bound

-- this holds of each file that a crash in this state may leave
abbrev pub Leaves : (List ℕ → Type 0) → DiskState → Type 0
Leaves P s = (file : List ℕ) → IsImage s file → P file

-- this holds of each of these states
abbrev pub Each : (DiskState → Type 0) → List DiskState → Type 0
Each P [] = Unit {0}
Each P (s ∷ states) = P s × Each P states

-- A disk's moments are the states that it had, the newest first. This is the newest.
abbrev pub now : List DiskState → DiskState
now [] = settled_at []
now (s ∷ states) = s

-- there were more moments, and this holds of each of them
pub record Adds (P : DiskState → Type 0) (old new : List DiskState) : Type 0 where
  pub added : List DiskState
  pub joined : new ≡ added ++ old
  pub each : Each P added

-- at each moment since, a crash could leave only files that it may leave in this state, and no other ranges were at
-- risk
abbrev pub Runs : DiskState → List DiskState → List DiskState → Type 0
Runs bound old new = Adds (λ s. Within s bound) old new

-- this holds of each file that a crash may have left at a moment since
abbrev pub LeavesOnly : (List ℕ → Type 0) → List DiskState → List DiskState → Type 0
LeavesOnly P old new = Adds (Leaves P) old new

-- bytes with others written over them from a place on
abbrev pub written_over : List ℕ → ℕ → List ℕ → List ℕ
written_over old place bytes = take place old ++ (bytes ++ drop (place + length bytes) old)

-- A write of this many bytes from a place on does not cover a range: some bytes of the range that the file has are
-- outside of it. The file has this length after the write; bytes past its end are on no disk.
abbrev pub is_not_covered : ℕ → ℕ → ℕ → Range → Bool
is_not_covered place size len r = not (nat_le place r.place && nat_le (min (r.place + r.size) len) (place + size))

-- the ranges that such a write does not cover
abbrev pub not_covered : ℕ → ℕ → ℕ → List Range → List Range
not_covered place size len ranges = filter (is_not_covered place size len) ranges

-- A read gives the bytes with these written over them. A range that a failed sync left is written again where this
-- write covers it, and is still left where it does not. A file ends below 2^63.
pub record IsWritten (place : ℕ) (bytes : List ℕ) (old new : List DiskState) : Type 0 where
  pub bytes_are : (now new).bytes ≡ written_over (now old).bytes place bytes
  pub left_are : (now new).left ≡ not_covered place (length bytes) (length (now new).bytes) (now old).left
  pub small : place + length bytes < 2 ^ 63

-- after a sync that returns Ok, where a failed one left these ranges
abbrev pub synced_but : List Range → DiskState → DiskState
synced_but [] s = settled_at s.bytes
synced_but (r ∷ left) s = record { bytes = s.bytes; written = []; left = r ∷ left; settled = s.settled; least = s.least; most = s.most }

-- After a sync that returns Ok. What was written since the last call of sync is on the disk, but nothing older that a
-- failed one left: a system may drop what it could not write, and still show it to readers. If nothing is left, all is
-- on the disk.
abbrev pub synced : DiskState → DiskState
synced s = synced_but s.left s

-- a sync turned the newest state into this
abbrev pub IsSynced : List DiskState → List DiskState → Type 0
IsSynced old new = now new ≡ synced (now old)

-- bytes were written over it, and it was synced
abbrev pub IsPut : ℕ → List ℕ → List DiskState → List DiskState → Type 0
IsPut place bytes old new = (now new ≡ settled_at (written_over (now old).bytes place bytes)) × (place + length bytes < 2 ^ 63)

-- Four calls, each of which may fail or stop at any moment: bytes are written after the one at this place and synced,
-- and then that one is overwritten and synced. It is known which of the two syncs they reached.
pub record Gated (place : ℕ) (bytes : List ℕ) (old new : List DiskState) (known : Known) : Type 0 where
  pub mid : List DiskState
  pub first : Runs (writing (place + 1) (length bytes) (now old)) old mid
  pub second : ((known ≡ ToGate) × (new ≡ mid))
      ⊎ ((known ≡ ButGate) × ((now mid ≡ settled_at (written_over (now old).bytes (place + 1) bytes)) × Runs (writing place 1 (now mid)) mid new))

-- after all four: the bytes are behind an open gate, and all is synced
abbrev pub IsGated : ℕ → List ℕ → List DiskState → List DiskState → Type 0
IsGated place bytes old new =
    (now new ≡ settled_at (written_over (written_over (now old).bytes (place + 1) bytes) place (1 ∷ []))) × (place + 1 + length bytes < 2 ^ 63)
