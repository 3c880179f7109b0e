use Rattle.buffer_targets.specs.Targets.{seen_all}
use Rattle.buffer_targets.proofs.Edits.{map_step}
use Rattle.buffer_targets.proofs.queries.see_each.Goals as goal

pub loop-target-preserved : goal.loop-target-preserved
loop-target-preserved c =
    map_step (seen_all c.args.here.now) c.loop-target.targets _ c.loop-target.target-index c.target-item.result _ c.loop-target.invariant c.loop-target-test.true c.see.ensures
