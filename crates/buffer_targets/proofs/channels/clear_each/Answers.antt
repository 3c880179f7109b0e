use Rattle.buffer_targets.specs.Targets.{over, cleared}
use Rattle.buffer_targets.proofs.Edits.{map_step}
use Rattle.buffer_targets.proofs.channels.clear_each.Goals as goal

pub loop-channel-preserved : goal.loop-channel-preserved
loop-channel-preserved c =
    map_step (over cleared) c.loop-channel.channels _ c.loop-channel.channel-index c.channel-item.result _ c.loop-channel.invariant c.loop-channel-test.true c.clear.ensures
