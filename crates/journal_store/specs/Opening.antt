-- What the store of a disk holds once it is opened, and what a crash leaves in between.
use Rattle.std.specs.Prelude.{◌≡◌, ◌≤◌, ◌<◌, ◌⊎◌, IsErr, ℕ, List, length}
use Rattle.wire_bytes.specs.Fields.{Reading}
use Rattle.stable_store.specs.declared.saved.Saved.{Saved}
use Rattle.stable_store.specs.declared.store_fault.StoreFault.{StoreFault}
use Rattle.stable_store.specs.Stores.{nothing_saved}
use Rattle.journal_store.specs.Disks.{DiskState, IsImage}
use Rattle.journal_store.specs.Journals.{found}
use Rattle.journal_store.specs.Payloads.{payloads}
use Rattle.journal_store.specs.Serving.{IsFound, IsNew, IsRefused}

module _ {B : Type 0} (body : Reading B) where
  -- The file has at most 9 bytes, the length of a journal in which nothing is saved, and what is read of it is refused.
  -- An empty journal of either version is therefore not made again.
  pub record IsToBeMade (s : DiskState) : Type 0 where
    pub short : length s.bytes ≤ 9
    pub refused : IsErr (found (payloads body) nothing_saved s.bytes)

  -- what the file stands for, or nothing if the journal is to be made
  abbrev pub IsOpened : DiskState → Saved B → Type 0
  IsOpened s saved = IsFound body s saved ⊎ ((saved ≡ nothing_saved) × IsToBeMade s)

  -- the file is not short, and is refused for this reason
  abbrev pub IsUnreadable : DiskState → StoreFault → Type 0
  IsUnreadable s fault = IsRefused body s fault × (9 < length s.bytes)

  -- a file that a crash might have left before, or, if the journal was to be made, one that opens as an empty store or
  -- is refused
  abbrev pub IsKept : DiskState → List ℕ → Type 0
  IsKept s file = IsImage s file ⊎ (IsNew body file × IsToBeMade s)
