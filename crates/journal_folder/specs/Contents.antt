-- The state of a journal, from the bytes of its file.
use Rattle.std.specs.Prelude.{◌≡◌, ◌⊎◌, ◌≤◌, ℕ, List, Ok, Err, length, ⊤}
use Rattle.wire_bytes.specs.Fields.{Reading}
use Rattle.bouncer_tower.specs.Bodies.{TowerBody}
use Rattle.journal_store.specs.Journals.{found}
use Rattle.journal_store.specs.Payloads.{payloads}
use Rattle.stable_store.specs.Stores.{nothing_saved}
use Rattle.stable_store.specs.declared.store_fault.StoreFault.{StoreFault}
use Rattle.stable_store.specs.declared.store_fault.StoreFault.TheVariants as fault
use Rattle.file_disk.specs.declared.open_fault.OpenFault.{OpenFault}
use Rattle.file_disk.specs.declared.open_fault.OpenFault.TheVariants as opening
use Rattle.journal_folder.specs.declared.loss.Loss.TheVariants as loss
use Rattle.journal_folder.specs.declared.standing.Journal.{Journal}
use Rattle.journal_folder.specs.declared.standing.Journal.TheVariants.{Lost, Whole}

module _ (body : Reading TowerBody) where
  -- It holds what its file stands for, or nothing if it is no longer than an empty one; it is lost if the file is no
  -- journal or damaged
  abbrev pub IsContent : List ℕ → Journal → Type 0
  IsContent file (Whole saved) = (found (payloads body) nothing_saved file ≡ Ok saved) ⊎ ((length file ≤ 9) × (saved ≡ nothing_saved))
  IsContent file (Lost loss.NotAStore) = found (payloads body) nothing_saved file ≡ Err fault.NotAStore
  IsContent file (Lost (loss.Damaged place)) = found (payloads body) nothing_saved file ≡ Err (fault.Damaged place)
  IsContent file (Lost loss.Missing) = ⊥
  IsContent file (Lost loss.Empty) = ⊥
  IsContent file (Lost loss.Older) = ⊥

  -- it is refused: it is of another version, or memory ran out
  abbrev pub IsNoContent : List ℕ → StoreFault → Type 0
  IsNoContent file fault.Version = found (payloads body) nothing_saved file ≡ Err fault.Version
  IsNoContent file fault.Memory = ⊤
  IsNoContent file fault.NotAStore = ⊥
  IsNoContent file (fault.Damaged place) = ⊥
  IsNoContent file fault.Device = ⊥

-- a journal that can't be opened is lost: its file is no journal, or damaged
abbrev pub IsLoss : OpenFault → Type 0
IsLoss (opening.Store fault.NotAStore) = ⊤
IsLoss (opening.Store (fault.Damaged place)) = ⊤
IsLoss (opening.Store fault.Device) = ⊥
IsLoss (opening.Store fault.Version) = ⊥
IsLoss (opening.Store fault.Memory) = ⊥
IsLoss opening.InUse = ⊥
IsLoss opening.NotAFile = ⊥
IsLoss (opening.System error) = ⊥
