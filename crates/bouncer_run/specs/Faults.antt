-- What faults of lower calls mean to the program.
use Rattle.std.specs.Prelude.{◌≡◌, ◌≢◌, ◌⊎◌}
use Rattle.std.specs.declared.io.ErrorKind.{ErrorKind}
use Rattle.std.specs.declared.io.ErrorKind.TheVariants.{OutOfMemory}
use Rattle.std.specs.IoError.{error_kind}
use Rattle.file_disk.specs.declared.open_fault.OpenFault.{OpenFault}
use Rattle.file_disk.specs.declared.open_fault.OpenFault.TheVariants as opening
use Rattle.stable_store.specs.declared.store_fault.StoreFault.{StoreFault}
use Rattle.stable_store.specs.declared.store_fault.StoreFault.TheVariants as store
use Rattle.bouncer_run.specs.declared.event_loop.LoopFault.{LoopFault}
use Rattle.bouncer_run.specs.declared.event_loop.LoopFault.TheVariants as ended
use Rattle.whole_input.specs.declared.read_fault.ReadFault.{ReadFault}
use Rattle.whole_input.specs.declared.read_fault.ReadFault.TheVariants as input
use Rattle.bouncer_run.specs.declared.run_fault.RunFault.{RunFault}
use Rattle.bouncer_run.specs.declared.run_fault.RunFault.TheVariants.{InputTooLong, Memory, Read, Socket, Store}

-- this fault, or out of memory
abbrev pub IsOrMemory : RunFault → RunFault → Type 0
IsOrMemory fault f = (f ≡ fault) ⊎ (f ≡ Memory)

-- an error of the system means out of memory if it is of that kind, and else that fault
pub record IsFaultOfError (kind : ErrorKind) (otherwise fault : RunFault) : Type 0 where
  pub memory : kind ≡ OutOfMemory → fault ≡ Memory
  pub other : kind ≢ OutOfMemory → fault ≡ otherwise

-- an input that is not read: it is too long, it fails, or there is not enough memory
abbrev pub fault_of_reading : ReadFault → RunFault
fault_of_reading input.InputTooLong = InputTooLong
fault_of_reading input.Read = Read
fault_of_reading input.Memory = Memory

-- a loop that ends by a fault: of a store, of a socket, or out of memory
abbrev pub fault_of_loop : LoopFault → RunFault
fault_of_loop ended.Store = Store
fault_of_loop ended.Socket = Socket
fault_of_loop ended.Memory = Memory

-- a store that fails: out of memory, or because of what is in it
abbrev pub fault_of_store : StoreFault → RunFault
fault_of_store store.Device = Store
fault_of_store store.NotAStore = Store
fault_of_store store.Version = Store
fault_of_store (store.Damaged place) = Store
fault_of_store store.Memory = Memory

-- a journal that is not opened: out of memory is reported as that, also if the system reports it
abbrev pub IsFaultOfOpening : OpenFault → RunFault → Type 0
IsFaultOfOpening opening.InUse f = f ≡ Store
IsFaultOfOpening opening.NotAFile f = f ≡ Store
IsFaultOfOpening (opening.System error) f = IsFaultOfError (error_kind error) Store f
IsFaultOfOpening (opening.Store fault) f = f ≡ fault_of_store fault
