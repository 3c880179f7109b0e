-- What the faults of a fold say about its input.
use Rattle.whole_input.specs.declared.read_fault.ReadFault.{ReadFault}
use Rattle.whole_input.specs.declared.read_fault.ReadFault.TheVariants as reading
use Rattle.fold_app.specs.declared.fault.FoldFault.{FoldFault}
use Rattle.fold_app.specs.declared.fault.FoldFault.TheVariants.{InputTooLong, Read, BadHex, BadBody, Write, Memory}

-- the fault of a fold whose input is not read whole
abbrev pub fold_fault : ReadFault → FoldFault
fold_fault reading.InputTooLong = InputTooLong
fold_fault reading.Read = Read
fold_fault reading.Memory = Memory

-- the faults of a line of an input
abbrev pub IsOfALine : FoldFault → Type 0
IsOfALine (BadHex k) = Unit {0}
IsOfALine (BadBody k) = Unit {0}
IsOfALine InputTooLong = ⊥
IsOfALine Read = ⊥
IsOfALine Memory = ⊥
IsOfALine Write = ⊥
