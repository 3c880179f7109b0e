-- Why no store is opened over a file of the system.
use Rattle.std.specs.Prelude.{Option, Some, None}
use Rattle.stable_store.specs.declared.store_fault.StoreFault.{StoreFault}
use Rattle.stable_store.specs.declared.store_fault.StoreFault.TheVariants.{Device, NotAStore, Version, Damaged, Memory}
use Rattle.file_disk.specs.declared.open_fault.OpenFault.{OpenFault}
use Rattle.file_disk.specs.declared.open_fault.OpenFault.TheVariants.{Store}

-- for a failed device the system's error is reported, if there is one
abbrev pub of_store : {E : Type 0} → (E → OpenFault) → StoreFault → Option E → OpenFault
of_store as_told Device (Some error) = as_told error
of_store as_told Device None = Store Device
of_store as_told NotAStore last = Store NotAStore
of_store as_told Version last = Store Version
of_store as_told (Damaged place) last = Store (Damaged place)
of_store as_told Memory last = Store Memory
