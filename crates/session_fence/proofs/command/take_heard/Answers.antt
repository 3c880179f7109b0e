use Rattle.std.proofs.lemmas.Result.{err_from_is_err_and}
use Rattle.wire_bytes.proofs.Steps.{through-stops}
use Rattle.wire_bytes.specs.Fields.{both}
use Rattle.wire_bytes.specs.Values.{session, number, moment}
use Rattle.session_fence.specs.Spelling.{heard_of}
use Rattle.session_fence.proofs.command.take_heard.Goals as goal

pub returns-in_err-id-clause-err : goal.returns-in_err-id-clause-err
returns-in_err-id-clause-err g c =
    let p = err_from_is_err_and c.from_residual.result c.from_residual.ensures.1 in
    rw (p.1, p.2) (λ h. through-stops heard_of (both (both (both session number) moment) g.L.Wire.taken) 1 c.args.input.now _ (c.in_err-id.ensures.err h))
