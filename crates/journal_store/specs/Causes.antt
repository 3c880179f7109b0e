-- Why a disk's call fails.
use Rattle.std.specs.Prelude.{◌≡◌, ℕ, ◌≤◌, ◌⊎◌, Result, IsErrOf, OnOk}
use Rattle.stable_store.specs.declared.store_fault.StoreFault.{StoreFault}
use Rattle.stable_store.specs.declared.store_fault.StoreFault.TheVariants.{Device, Memory}
use Rattle.stable_store.specs.Stores.{HasRisen}
use Rattle.journal_store.specs.declared.disk_fault.DiskFault.{DiskFault}
use Rattle.journal_store.specs.declared.disk_fault.DiskFault.TheVariants.{Device as DiskFailed, Memory as NoMemory}

-- the count of failures does not decrease, `Device` is returned only if it has risen, and anything else only if it has
-- not
pub record HasCause {T : Type 0} (before after : ℕ) (result : Result T DiskFault) : Type 0 where
  pub later : before ≤ after
  pub failed : IsErrOf result DiskFailed → HasRisen before after
  pub lacked : IsErrOf result NoMemory → after ≡ before
  pub passed : OnOk result (after ≡ before)

-- a disk's fault as a fault of its store
abbrev pub store_fault : DiskFault → StoreFault
store_fault DiskFailed = Device
store_fault NoMemory = Memory

-- memory ran out and the count of failures is unchanged, or it has risen
abbrev pub IsMet : ℕ → ℕ → StoreFault → Type 0
IsMet before after fault = ((fault ≡ Memory) × (after ≡ before)) ⊎ ((fault ≡ Device) × HasRisen before after)
