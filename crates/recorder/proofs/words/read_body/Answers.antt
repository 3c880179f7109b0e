use Rattle.std.proofs.Common.{inl, inr, ◌≡◌, ◌≢◌, ℕ, List, IfOk, ap, subst, sym, ◌∙◌}
use Rattle.hex.specs.Hex.{encode_lower}
use Rattle.recorder.specs.Readings.{ReadsAs}
use Rattle.recorder.proofs.Spelled.{no_digits, other_digits, digits_read}
use Rattle.recorder.proofs.words.read_body.Goals as goal

pub returns-in-Err-OddLength : goal.returns-in-Err-OddLength
returns-in-Err-OddLength g c =
    let w = g.B.Wire in
    elim c.in-Err-OddLength.ensures.err [
      | inl h ↦ absurd cc
      | inr h ↦ no_digits w.spelled w.fits c.args.digits.now c.in-Err-OddLength.field-0 h
    ]

pub returns-in-Err-InvalidStringLength : goal.returns-in-Err-InvalidStringLength
returns-in-Err-InvalidStringLength g c =
    let w = g.B.Wire in
    elim c.in-Err-InvalidStringLength.ensures.err [
      | inl h ↦ absurd cc
      | inr h ↦ no_digits w.spelled w.fits c.args.digits.now c.in-Err-InvalidStringLength.field-0 h
    ]

pub returns-in-Err-InvalidHexCharacter : goal.returns-in-Err-InvalidHexCharacter
returns-in-Err-InvalidHexCharacter g c =
    let w = g.B.Wire in
    elim c.in-Err-InvalidHexCharacter.ensures.err [
      | inl h ↦ absurd cc
      | inr h ↦ no_digits w.spelled w.fits c.args.digits.now c.in-Err-InvalidHexCharacter.field-0 h
    ]

pub returns-then-not-branch : goal.returns-then-not-branch
returns-then-not-branch g c =
    let w = g.B.Wire in
    let other : encode_lower c.deref.result.now ≢ c.args.digits.now = c.in_ok-is_written.ensures.other c.if-not-branch.true in
    other_digits w.spelled w.fits c.args.digits.now c.in-Ok.bytes.items c.in-Ok.ensures.ok (λ h. other (rw c.deref.ensures.value h))

pub returns : goal.returns
returns g c =
    let w = g.B.Wire in
    let same : encode_lower c.deref.result.now ≡ c.args.digits.now = c.in_ok-is_written.ensures.same c.if-not-branch.false in
    let written : encode_lower c.in-Ok.bytes.items ≡ c.args.digits.now = ap encode_lower (sym c.deref.ensures.value) ∙ same in
    digits_read w.spelled w.fits c.args.digits.now c.in-Ok.bytes.items c.read_whole.result c.in-Ok.ensures.ok written (subst (λ (b : List ℕ). IfOk c.read_whole.result (ReadsAs w.spelled w.fits b)) c.deref-2.ensures.value c.read_whole.ensures)
