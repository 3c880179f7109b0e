use Rattle.std.proofs.Common.{arith}
use Rattle.recorder.proofs.Spelled.{whole_is, not_whole, refused_whole}
use Rattle.recorder.proofs.words.read_whole.Goals as goal

pub returns-then-len-bytes : goal.returns-then-len-bytes
returns-then-len-bytes g c =
    let w = g.B.Wire in
    whole_is w.spelled w.fits w.taken g.met.B.Wire.is_codec c.args.bytes.now c.in-Ok.body c.in-Ok.len (λ i. omega (arith, c.type_inv.bytes i)) c.in-Ok.ensures.ok c.if-len-bytes.true

pub returns-else-len-bytes : goal.returns-else-len-bytes
returns-else-len-bytes g c =
    let w = g.B.Wire in
    not_whole w.spelled w.fits w.taken g.met.B.Wire.is_codec c.args.bytes.now c.in-Ok.body c.in-Ok.len c.in-Ok.ensures.ok c.if-len-bytes.false

pub returns-in-Err-Short : goal.returns-in-Err-Short
returns-in-Err-Short g c =
    let w = g.B.Wire in
    refused_whole w.spelled w.fits w.taken g.met.B.Wire.is_codec c.args.bytes.now c.in-Err-Short.field-0 (c.in-Err-Short.ensures.err (λ h. cc))

pub returns-in-Err-Bad : goal.returns-in-Err-Bad
returns-in-Err-Bad g c =
    let w = g.B.Wire in
    refused_whole w.spelled w.fits w.taken g.met.B.Wire.is_codec c.args.bytes.now c.in-Err-Bad.field-0 (c.in-Err-Bad.ensures.err (λ h. cc))
