use Rattle.std.proofs.Common.{arith, ap, length, length-append}
use Rattle.stable_store.specs.Changes.{spelled_change}
use Rattle.journal_store.proofs.Sizes.{change_size}
use Rattle.journal_store.proofs.append.record.Goals as goal

pub overflow_cast-len : goal.overflow_cast-len
overflow_cast-len g c =
    let small = change_size g.B.Wire.fits g.B.Wire.spelled c.args.change.now c.fits.ensures in
    let put = ap length c.in_ok-put.ensures.items in
    let front = ap length c.in_ok-bytes.ensures.items in
    omega (arith, small, c.len.ensures, put, front, length-append c.in_ok-bytes.bytes.items (spelled_change g.B.Wire.spelled c.args.change.now))
