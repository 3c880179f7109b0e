use Rattle.std.proofs.Common.{inl, inr, arith}
use Rattle.node_threads.proofs.cluster.starting.unpaired.Goals as goal

pub returns-then-parts-size-clause-unpaired : goal.returns-then-parts-size-clause-unpaired
returns-then-parts-size-clause-unpaired c = inl (omega (arith, c.if-parts-size.true, c.value-size.ensures.value), omega arith)

pub returns-then-parts-size-2-clause-unpaired : goal.returns-then-parts-size-2-clause-unpaired
returns-then-parts-size-2-clause-unpaired c =
    inr (omega (arith, c.if-parts-size-2.true, c.value-size.ensures.value), omega (arith, c.value-size.ensures.value))

pub returns-clause-paired : goal.returns-clause-paired
returns-clause-paired c = omega (arith, c.if-parts-size.false, c.if-parts-size-2.false, c.value-size.ensures.value)
