use Rattle.std.proofs.Common.{ℕ, length, drop, sym, ap, arith}
use Rattle.std.proofs.lemmas.Result.{err_from_is_err_and}
use Rattle.std.proofs.lemmas.List.{length-take}
use Rattle.wire_bytes.specs.Fields.{AreBytes}
use Rattle.wire_bytes.specs.Codecs.{behind-ok, AreBytes-drop}
use Rattle.raft_log.specs.BodyCodec.{length_codec}
use Rattle.raft_log.proofs.Measures.{measured-short, measured-stops, measured-read, measured-refused, measured_wants, whole_wants}
use Rattle.raft_log.proofs.body.LoggedBodyWire.take.Goals as goal

pub returns-in_err-size-clause-err : goal.returns-in_err-size-clause-err
returns-in_err-size-clause-err g c =
    let p = err_from_is_err_and c.from_residual.result c.from_residual.ensures.1 in
    rw (p.1, p.2) (λ h. measured-short g.B.Wire.taken c.args.input.now _ (sym c.in_err-size.ensures.value))

pub take_behind-requires : goal.take_behind-requires
take_behind-requires g c = (length_codec.one_spelling c.args.input.now c.in_ok-size.size c.in_ok-size.place (λ i. omega (arith, c.type_inv.input i)) (sym c.in_ok-size.ensures.value)).2

pub returns-in_err-body-clause-err : goal.returns-in_err-body-clause-err
returns-in_err-body-clause-err g c =
    let p = err_from_is_err_and c.from_residual-in_err-body.result c.from_residual-in_err-body.ensures.1 in
    rw (p.1, p.2) (λ h. measured-stops g.B.Wire.taken c.args.input.now _ _ _ (sym c.in_ok-size.ensures.value) (c.in_err-body.ensures.err h))

pub returns-else-end-place-clause-err : goal.returns-else-end-place-clause-err
returns-else-end-place-clause-err g c h = measured-refused g.B.Wire.taken c.args.input.now _ _ _ _ (sym c.in_ok-size.ensures.value) c.in_ok-body.ensures.ok c.if-end-place.false

pub returns-in_err-body-clause-memory : goal.returns-in_err-body-clause-memory
returns-in_err-body-clause-memory g c =
    let p = err_from_is_err_and c.from_residual-in_err-body.result c.from_residual-in_err-body.ensures.1 in
    rw (p.1, p.2) (λ h. measured_wants g.B.Wire.wants g.B.Wire.taken c.args.input.now _ _ (sym c.in_ok-size.ensures.value) (c.in_err-body.ensures.memory h))

pub new-requires : goal.new-requires
new-requires g c =
    let bytes : AreBytes c.args.input.now = λ i. omega (arith, c.type_inv.input i) in
    let b = behind-ok c.in_ok-size.place g.B.Wire.taken c.args.input.now c.in_ok-body.body c.in_ok-body.end c.in_ok-body.ensures.ok in
    let one = g.met.B.Wire.is_codec.one_spelling (drop c.in_ok-size.place c.args.input.now) c.in_ok-body.body b.0 (AreBytes-drop c.in_ok-size.place c.args.input.now bytes) b.1 in
    record {
      fits = one.0;
      short = omega (arith, ap (length {A = ℕ}) one.1, one.2, length-take b.0 (drop c.in_ok-size.place c.args.input.now), b.2, c.if-end-place.true, c.in_ok-size.ensures.limit);
    }

pub returns-in_err-new-clause-memory : goal.returns-in_err-new-clause-memory
returns-in_err-new-clause-memory g c =
    let p = err_from_is_err_and c.from_residual-in_err-new.result c.from_residual-in_err-new.ensures.1 in
    let whole = measured-read g.B.Wire.taken c.args.input.now _ _ _ _ (sym c.in_ok-size.ensures.value) c.in_ok-body.ensures.ok c.if-end-place.true in
    rw (p.1, p.2) (λ h. whole_wants g.B.Wire.wants g.B.Wire.taken c.args.input.now _ _ whole)

pub returns-in_ok-new-clause-ok : goal.returns-in_ok-new-clause-ok
returns-in_ok-new-clause-ok g c = rw c.in_ok-new.ensures (measured-read g.B.Wire.taken c.args.input.now _ _ _ _ (sym c.in_ok-size.ensures.value) c.in_ok-body.ensures.ok c.if-end-place.true)
