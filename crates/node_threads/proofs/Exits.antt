-- What holds when a `?` returns a fault.
use Rattle.std.proofs.Common.{Result, IfOk, IfErr, sym, subst}
use Rattle.std.specs.Result.{IsErrAnd}
use Rattle.std.proofs.lemmas.Result.{err_from_is_err_and}

module _ {A E : Type 0} (result : Result A E) where
  pub fault_at_exit : (Q : E → Type 0) → IsErrAnd result Q → IfErr result Q
  fault_at_exit Q fails = let p = err_from_is_err_and {Q = Q} result fails in subst (λ (r : Result A E). IfErr r Q) (sym p.1) p.2

  pub none_at_exit : (P : A → Type 0) (Q : E → Type 0) → IsErrAnd result Q → IfOk result P
  none_at_exit P Q fails = let p = err_from_is_err_and {Q = Q} result fails in subst (λ (r : Result A E). IfOk r P) (sym p.1) tt
