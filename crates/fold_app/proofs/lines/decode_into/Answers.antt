use Rattle.std.proofs.Common.{◌≡◌, ◌+◌, ◌*◌, ◌/◌, [], ◌∷◌, length, get_or, ◌∙◌, ap, arith}
use Rattle.std.specs.Simd.{first_chunks}
use Rattle.fold_app.specs.Digits.{digit_value}
use Rattle.fold_app.proofs.Decoding.{all_written, digit_at, one_more, pair_at}
use Rattle.fold_app.proofs.lines.decode_into.Goals as goal

pub digit_value-requires : goal.digit_value-requires
digit_value-requires c =
    let ds = c.args.digits.now in
    let i = c.loop-i.i in
    let e : get_or (first_chunks 2 (length ds / 2) ds) i [] ≡ get_or ds (2 * i) 0 ∷ get_or ds (2 * i + 1) 0 ∷ [] = pair_at (length ds / 2) ds i [] (omega (arith, c.requires.twice, c.loop-i.auto.bytes, c.loop-i-test.true)) (omega (arith, c.requires.twice)) in
    rw (c.as_chunks.ensures.front, e) (digit_at ds (2 * i) 0 (omega (arith, c.requires.twice, c.loop-i.auto.bytes, c.loop-i-test.true)) c.requires.digits)

pub digit_value-requires-in-loop-i : goal.digit_value-requires-in-loop-i
digit_value-requires-in-loop-i c =
    let ds = c.args.digits.now in
    let i = c.loop-i.i in
    let e : get_or (first_chunks 2 (length ds / 2) ds) i [] ≡ get_or ds (2 * i) 0 ∷ get_or ds (2 * i + 1) 0 ∷ [] = pair_at (length ds / 2) ds i [] (omega (arith, c.requires.twice, c.loop-i.auto.bytes, c.loop-i-test.true)) (omega (arith, c.requires.twice)) in
    rw (c.as_chunks.ensures.front, e) (digit_at ds (2 * i + 1) 0 (omega (arith, c.requires.twice, c.loop-i.auto.bytes, c.loop-i-test.true)) c.requires.digits)

pub loop-i-preserved : goal.loop-i-preserved
loop-i-preserved c =
    let ds = c.args.digits.now in
    let i = c.loop-i.i in
    let e : get_or (first_chunks 2 (length ds / 2) ds) i [] ≡ get_or ds (2 * i) 0 ∷ get_or ds (2 * i + 1) 0 ∷ [] = pair_at (length ds / 2) ds i [] (omega (arith, c.requires.twice, c.loop-i.auto.bytes, c.loop-i-test.true)) (omega (arith, c.requires.twice)) in
    let high : c.digit_value.result ≡ digit_value (get_or ds (2 * i) 0) = rw (c.as_chunks.ensures.front, e) at c.digit_value.ensures.value in
    let low : c.digit_value-in-loop-i.result ≡ digit_value (get_or ds (2 * i + 1) 0) = rw (c.as_chunks.ensures.front, e) at c.digit_value-in-loop-i.ensures.value in
    one_more c.loop-i.bytes ds i _ c.loop-i.invariant (omega (arith, c.requires.twice, c.loop-i.auto.bytes)) (omega (arith, c.loop-i-test.true, c.loop-i.auto.bytes))
    (ap (λ x. x * 16 + c.digit_value-in-loop-i.result) high ∙ ap (λ y. digit_value (get_or ds (2 * i) 0) * 16 + y) low)

pub returns : goal.returns
returns c = all_written c.loop-i.bytes c.args.digits.now c.loop-i.i c.loop-i.invariant (omega (arith, c.requires.twice, c.loop-i.auto.bytes)) (omega (arith, c.loop-i-test.false, c.loop-i.auto.bytes))
