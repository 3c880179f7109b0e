use Rattle.std.proofs.Common.{◌-◌}
use Rattle.buffer_targets.proofs.Edits.{map_step}
use Rattle.buffer_targets.proofs.seen.lower.Goals as goal

pub loop-count-preserved : goal.loop-count-preserved
loop-count-preserved c =
    map_step (λ n. n - c.args.gone) c.loop-count.counts _ c.loop-count.count-index 0 _ c.loop-count.invariant c.loop-count-test.true c.saturating_sub.ensures
