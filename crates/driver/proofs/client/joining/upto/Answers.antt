use Rattle.std.proofs.Common.{◌∙◌, sym, ap}
use Rattle.driver.proofs.Marks.{mark_at, no_mark, no_mark_past, own_mark}
use Rattle.driver.proofs.client.joining.upto.Goals as goal

pub returns-then-bytes-i : goal.returns-then-bytes-i
returns-then-bytes-i c =
    let mark = c.args.mark in
    sym (mark_at mark c.args.bytes.now c.loop-i.i 0 c.loop-i.invariant c.loop-i-test.true (ap (no_mark mark) c.if-bytes-i.true ∙ own_mark mark))

pub returns : goal.returns
returns c = sym (no_mark_past c.args.mark c.args.bytes.now c.loop-i.i c.loop-i.invariant c.loop-i-test.false)
