-- What is wrong with a store is a fault of a check.
use Rattle.std.proofs.Common.{inl, inr, subst, sym}
use Rattle.bouncer_run.specs.Checks.{IsCheckFault}
use Rattle.bouncer_run.specs.Faults.{IsOrMemory}
use Rattle.bouncer_run.specs.declared.run_fault.RunFault.{RunFault}
use Rattle.bouncer_run.specs.declared.run_fault.RunFault.TheVariants.{Store}

pub of_store : (f : RunFault) → IsOrMemory Store f → IsCheckFault f
of_store f (inl e) = subst IsCheckFault (sym e) tt
of_store f (inr e) = subst IsCheckFault (sym e) tt
