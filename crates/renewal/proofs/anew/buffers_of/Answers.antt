use Rattle.bouncer_tower.specs.Bodies.{accepted, plain, unclaimed}
use Rattle.renewal.proofs.anew.buffers_of.Goals as goal

pub returns : goal.returns
unfolding accepted unclaimed plain
returns c = λ s h st. c.machine.ensures s _ (c.machine-fence.ensures s _ (c.machine-claims.ensures s h st))
