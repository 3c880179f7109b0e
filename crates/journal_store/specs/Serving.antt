-- What a store in a journal keeps, and what a crash leaves of it.
use Rattle.std.specs.Prelude.{◌≡◌, ℕ, ◌+◌, ◌-◌, ◌<◌, ◌≤◌, ◌^◌, Bool, true, false, List, length, Option, Some, None, Ok, Err}
use Rattle.wire_bytes.specs.Fields.{Reading}
use Rattle.stable_store.specs.declared.saved.Saved.{Saved}
use Rattle.stable_store.specs.declared.store_fault.StoreFault.{StoreFault}
use Rattle.stable_store.specs.Changes.{ChangeParts}
use Rattle.stable_store.specs.Stores.{Condition, changed, nothing_saved}
use Rattle.journal_store.specs.declared.known.Known.{Known}
use Rattle.journal_store.specs.declared.known.Known.TheVariants.{All, ToGate, ButGate}
use Rattle.journal_store.specs.Disks.{DiskState, IsAtRisk, IsImage, Leaves, Range, now, settled_at, writing}
use Rattle.journal_store.specs.Journals.{AtRest, IsEmptyOrRefused, StandsForOne, found}
use Rattle.journal_store.specs.Payloads.{payloads}

-- its disk, what it knows to hold, whether there was an error that nothing has mended, and the place of a gate that may
-- be open or closed, if there is one
pub record Journal (B Disk : Type 0) : Type 0 where
  pub disk : Disk
  pub saved : Saved B
  pub broken : Bool
  pub doubt : Option ℕ

-- there was an error that nothing has mended
abbrev pub is_broken : Known → Bool
is_broken All = false
is_broken ToGate = true
is_broken ButGate = true

-- the gate at this place, if it may be open or closed
abbrev pub doubt_of : Known → ℕ → Option ℕ
doubt_of All place = None
doubt_of ToGate place = None
doubt_of ButGate place = Some place

-- what is known after an error
abbrev pub after_error : Known → Known
after_error All = ToGate
after_error ToGate = ToGate
after_error ButGate = ButGate

-- the state in which a gate that may be open or closed is being written
abbrev pub doubted : Option ℕ → DiskState → DiskState
doubted None s = s
doubted (Some place) s = writing place 1 s

-- The state in which what may not be on the disk is being written again: all that is behind a gate, or only the gate.
abbrev pub rewriting : Known → ℕ → DiskState → DiskState
rewriting All place s = s
rewriting ToGate place s = writing (place + 1) (length s.bytes - (place + 1)) s
rewriting ButGate place s = writing place 1 s

module _ {B : Type 0} (body : Reading B) where
  -- a file that stands for this
  abbrev pub StandsFor : Saved B → List ℕ → Type 0
  StandsFor saved file = found (payloads body) nothing_saved file ≡ Ok saved

  -- a file that stands for what was saved before a change, or for what is saved after it
  abbrev pub IsBeforeOrAfter : Saved B → ChangeParts B → List ℕ → Type 0
  IsBeforeOrAfter saved c file = StandsForOne (payloads body) nothing_saved saved (changed saved c) file

  -- a file that opens as an empty store, or is refused
  abbrev pub IsNew : List ℕ → Type 0
  IsNew file = IsEmptyOrRefused (payloads body) nothing_saved file

  -- a file that stands for something
  abbrev pub IsReadable : List ℕ → Type 0
  IsReadable file = (saved : Saved B) × StandsFor saved file

  -- a crash in this state may leave a file that stands for this
  pub record IsFound (s : DiskState) (saved : Saved B) : Type 0 where
    pub file : List ℕ
    pub image : IsImage s file
    pub stands : StandsFor saved file

  -- a crash in this state may leave a file that is refused for this reason
  pub record IsRefused (s : DiskState) (fault : StoreFault) : Type 0 where
    pub file : List ℕ
    pub image : IsImage s file
    pub refused : found (payloads body) nothing_saved file ≡ Err fault

  -- a file that is refused for this reason
  abbrev pub IsRefusedAs : List ℕ → StoreFault → Type 0
  IsRefusedAs file fault = found (payloads body) nothing_saved file ≡ Err fault

  -- all of the file is synced, and it stands for this with its closed gate at this place
  pub record IsSettled (states : List DiskState) (saved : Saved B) (place : ℕ) : Type 0 where
    pub file : List ℕ
    pub settled : now states ≡ settled_at file
    pub rest : AtRest (payloads body) nothing_saved file saved place
    pub small : place < 2 ^ 63

  -- a file with a closed gate at this place, up to which it stands for something
  abbrev pub IsClosedAt : ℕ → List ℕ → Type 0
  IsClosedAt place file = (saved : Saved B) × AtRest (payloads body) nothing_saved file saved place

  -- a file that stands for something, and reaches past this place
  abbrev pub IsReadableFrom : ℕ → List ℕ → Type 0
  IsReadableFrom place file = IsReadable file × (place < length file)

  -- all up to the closed gate at this place is on the disk, and what follows it may not be
  pub record IsStaged (states : List DiskState) (place : ℕ) : Type 0 where
    pub closed : Leaves (IsClosedAt place) (now states)
    pub behind : (r : Range) → IsAtRisk r (now states) → place < r.place

  -- All except the gate at this place is on the disk. Whether it is open or closed, the file stands for something.
  pub record IsOpening (states : List DiskState) (place : ℕ) : Type 0 where
    pub either : Leaves (IsReadableFrom place) (writing place 1 (now states))
    pub gate : (r : Range) → IsAtRisk r (now states) → (place ≤ r.place) × (r.place + r.size ≤ place + 1)

  -- what is known to be on the disk is there
  abbrev pub IsSound : List DiskState → Saved B → ℕ → Known → Type 0
  IsSound states saved place All = IsSettled states saved place
  IsSound states saved place ToGate = IsStaged states place
  IsSound states saved place ButGate = IsOpening states place

  -- the same for a store with anything saved
  abbrev pub IsKnown : List DiskState → ℕ → Known → Type 0
  IsKnown states place known = (saved : Saved B) × IsSound states saved place known

  -- What the store may hold, if the disk were read again: what a crash may leave, with a gate that may be open or
  -- closed either way. If nothing is to be mended, each file that a crash may leave stands for what is saved, by the
  -- clause `sound` of `JournalStore::disk`.
  abbrev pub MayStand : List DiskState → Saved B → Bool → Option ℕ → Saved B → Type 0
  MayStand states saved true doubt v = IsFound (doubted doubt (now states)) v
  MayStand states saved false doubt v = v ≡ saved

  -- the same for a store
  abbrev pub may_stand : {Disk : Type 0} → (Disk → List DiskState) → Journal B Disk → Saved B → Type 0
  may_stand states j v = MayStand (states j.disk) j.saved j.broken j.doubt v

  -- a file that stands for one of these
  abbrev pub StandsForAny : (Saved B → Type 0) → List ℕ → Type 0
  StandsForAny stood file = (v : Saved B) × (stood v × StandsFor v file)

module _ {B Disk : Type 0} where
  -- a store is honest if its disk is, and counts the disk's failures
  abbrev pub condition : (Disk → Bool) → (Disk → ℕ) → Journal B Disk → Condition
  condition honest failures j = record { honest = honest j.disk; broken = j.broken; failures = failures j.disk }
