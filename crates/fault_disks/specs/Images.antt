-- The files that a crash leaves of a disk in memory.
use Rattle.std.specs.Prelude.{ℕ, zero, suc, ◌+◌, Bool, true, ◌&&◌, ◌||◌, nat_lt, nat_le, if◌then◌else◌, List, [], ◌∷◌, get_or}
use Rattle.journal_store.specs.Disks.{DiskState, Range}
use Rattle.fault_disks.specs.declared.crash.Unsynced.{Unsynced}
use Rattle.fault_disks.specs.declared.crash.Unsynced.TheVariants.{Kept, Overwritten}

-- a place that is in none of these ranges
abbrev pub is_outside : ℕ → List Range → Bool
is_outside i [] = true
is_outside i (r ∷ ranges) = (nat_lt i r.place || nat_le (r.place + r.size) i) && is_outside i ranges

-- the byte at a place: as it is read if it is synced, else this one
abbrev pub byte_left : ℕ → DiskState → ℕ → ℕ
byte_left byte s i = if nat_lt i s.settled && (is_outside i s.written && is_outside i s.left) then get_or s.bytes i 0 else byte

-- this many such bytes from a place on
abbrev pub bytes_left : ℕ → DiskState → ℕ → ℕ → List ℕ
bytes_left byte s i zero = []
bytes_left byte s i (suc n) = byte_left byte s i ∷ bytes_left byte s (suc i) n

-- the file that a crash leaves: what is read, or the longest that may be left, with all that is not synced overwritten
abbrev pub left_by : Unsynced → DiskState → List ℕ
left_by Kept s = s.bytes
left_by (Overwritten byte) s = bytes_left byte s 0 s.most
