use Rattle.std.proofs.Common.{inl, inr, arith}
use Rattle.recorder.proofs.Numbers.{no_node}
use Rattle.recorder.proofs.fields.read_node.Goals as goal
use Rattle.recorder.proofs.fields.read_node.Goals.{else-number-ge1-via-then-number-ge1+else-number-le7, else-number-ge1-via-else-number-ge1}

pub returns-else-number-ge1 : goal.returns-else-number-ge1
returns-else-number-ge1 c =
    no_node c.args.bytes.now c.in-Some.number c.in-Some.ensures.0 c.in-Some.ensures.1
    (elim c.else-number-ge1.branch [
      | else-number-ge1-via-then-number-ge1+else-number-le7 w ↦ inr (omega (arith, w.if-number-le7.false))
      | else-number-ge1-via-else-number-ge1 w ↦ inl (omega (arith, w.if-number-ge1.false))
    ])
