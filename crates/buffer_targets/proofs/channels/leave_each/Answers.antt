use Rattle.std.proofs.Common.{false}
use Rattle.buffer_targets.specs.Targets.{with_joined}
use Rattle.buffer_targets.proofs.Edits.{map_step}
use Rattle.buffer_targets.proofs.channels.leave_each.Goals as goal

pub loop-channel-preserved : goal.loop-channel-preserved
loop-channel-preserved c =
    map_step (with_joined false) c.loop-channel.channels _ c.loop-channel.channel-index c.channel-item.result _ c.loop-channel.invariant c.loop-channel-test.true c.set_joined.ensures
