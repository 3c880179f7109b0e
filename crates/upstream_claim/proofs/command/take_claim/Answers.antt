use Rattle.std.proofs.lemmas.Result.{err_from_is_err_and}
use Rattle.wire_bytes.proofs.Steps.{through-stops}
use Rattle.wire_bytes.specs.Fields.{both}
use Rattle.wire_bytes.specs.Values.{session, number}
use Rattle.upstream_claim.specs.Spelling.{claim_of}
use Rattle.upstream_claim.proofs.command.take_claim.Goals as goal

pub returns-in_err-id-clause-err : goal.returns-in_err-id-clause-err
returns-in_err-id-clause-err g c =
    let p = err_from_is_err_and c.from_residual.result c.from_residual.ensures.1 in
    rw (p.1, p.2) (λ h. through-stops claim_of (both session number) 1 c.args.input.now _ (c.in_err-id.ensures.err h))
