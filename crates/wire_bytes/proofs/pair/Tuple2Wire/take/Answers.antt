use Rattle.std.proofs.Common.{sym, ◌∙◌}
use Rattle.std.proofs.lemmas.Result.{err_from_is_err_and}
use Rattle.wire_bytes.specs.Fields.{both}
use Rattle.wire_bytes.proofs.Steps.{behind-none, both-read, both-stops, both-stops_behind}
use Rattle.wire_bytes.proofs.Wanting.{second_wants}
use Rattle.wire_bytes.proofs.pair.Tuple2Wire.take.Goals as goal

pub returns-in_err-first-clause-err : goal.returns-in_err-first-clause-err
returns-in_err-first-clause-err g c =
    let p = err_from_is_err_and c.from_residual.result c.from_residual.ensures.1 in
    rw (p.1, p.2) (λ h. sym (behind-none (both g.A.Wire.taken g.B.Wire.taken) c.args.input.now) ∙ both-stops g.A.Wire.taken g.B.Wire.taken 0 c.args.input.now _ (c.in_err-first.ensures.err h))

pub returns-in_err-second-clause-err : goal.returns-in_err-second-clause-err
returns-in_err-second-clause-err g c =
    let p = err_from_is_err_and c.from_residual-in_err-second.result c.from_residual-in_err-second.ensures.1 in
    rw (p.1, p.2) (λ h. sym (behind-none (both g.A.Wire.taken g.B.Wire.taken) c.args.input.now)
    ∙ both-stops_behind g.A.Wire.taken g.B.Wire.taken 0 c.args.input.now _ _ _ c.in_ok-first.ensures.ok (c.in_err-second.ensures.err h))

pub returns-clause-ok : goal.returns-clause-ok
returns-clause-ok g c =
    sym (behind-none (both g.A.Wire.taken g.B.Wire.taken) c.args.input.now)
    ∙ both-read g.A.Wire.taken g.B.Wire.taken 0 c.args.input.now _ _ _ _ c.in_ok-first.ensures.ok c.in_ok-second.ensures.ok

pub returns-in_err-second-clause-memory : goal.returns-in_err-second-clause-memory
returns-in_err-second-clause-memory g c =
    let p = err_from_is_err_and c.from_residual-in_err-second.result c.from_residual-in_err-second.ensures.1 in
    rw (p.1, p.2) (λ h. second_wants g.A.Wire.wants g.A.Wire.taken g.B.Wire.wants c.args.input.now _ _ c.in_ok-first.ensures.ok (c.in_err-second.ensures.memory h))
