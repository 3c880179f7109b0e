use Rattle.std.proofs.Common.{if◌then◌else◌}
use Rattle.buffer_targets.specs.Targets.{over, seen_all}
use Rattle.buffer_targets.proofs.Edits.{map_step}
use Rattle.buffer_targets.proofs.channels.see_each_open.Goals as goal

pub loop-channel-preserved : goal.loop-channel-preserved
loop-channel-preserved c =
    map_step (λ x. if x.detached then x else over (seen_all c.args.here.now) x) c.loop-channel.channels _ c.loop-channel.channel-index c.channel-item.result _ c.loop-channel.invariant c.loop-channel-test.true c.see_if_open.ensures
