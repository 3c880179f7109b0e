use Rattle.std.proofs.Common.{◌≡◌, ◌∙◌, sym}
use Rattle.buffer_machine.specs.Crowd.{floor}
use Rattle.buffer_machine.specs.Held.{commands}
use Rattle.renewal.proofs.Tests.{below_more}
use Rattle.renewal.proofs.same.are_same_floors.Goals as goal

pub loop-node-preserved : goal.loop-node-preserved
loop-node-preserved c = λ s t old new so sn.
    below_more (λ n. floor (commands new) n ≡ floor (commands old) n) c.loop-node.node (c.loop-node.invariant s t old new so sn)
    (sym (c.floor-in-loop-node.ensures t new sn c.loop-node-test.true) ∙ (sym c.if-floor.false ∙ c.floor.ensures s old so c.loop-node-test.true))
