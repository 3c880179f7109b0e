-- What a call returns that reads a value at the front of an input.
use Rattle.std.specs.Prelude.{◌≡◌, ◌≢◌, ℕ, Bool, List, Result, Ok, Err, IfOk, IfErr, IsTrue}
use Rattle.wire_bytes.specs.declared.wire_fault.WireFault.{WireFault}
use Rattle.wire_bytes.specs.declared.wire_fault.WireFault.TheVariants.{Memory}
use Rattle.wire_bytes.specs.Fields.{Reading}

module _ {X : Type 0} where
  -- what was read is what the reading gives of the input
  abbrev pub Reads : Result (X × ℕ) WireFault → Reading X → List ℕ → Type 0
  Reads result reading input = IfOk result (λ r. reading input ≡ Ok (r.0, r.1))

  -- any fault but running out of memory is what the reading gives of the input
  abbrev pub Refuses : Result (X × ℕ) WireFault → Reading X → List ℕ → Type 0
  Refuses result reading input = IfErr result (λ e. e ≢ Memory → reading input ≡ Err e)

  -- memory runs out only where it may be needed
  abbrev pub WantsWhere : Result (X × ℕ) WireFault → Bool → Type 0
  WantsWhere result wanted = IfErr result (λ e. e ≡ Memory → IsTrue wanted)
