-- The numbers of a store's faults.
use Rattle.std.specs.Prelude.{ℕ}
use Rattle.stable_store.specs.declared.store_fault.StoreFault.{StoreFault}
use Rattle.stable_store.specs.declared.store_fault.StoreFault.TheVariants.{Device, NotAStore, Version, Damaged, Memory}

-- from 1 to 5, in their order
abbrev pub fault_number : StoreFault → ℕ
fault_number Device = 1
fault_number NotAStore = 2
fault_number Version = 3
fault_number (Damaged place) = 4
fault_number Memory = 5
