use Rattle.std.proofs.Common.{◌≡◌, ◌++◌, false, map, take, drop}
use Rattle.buffer_targets.specs.Targets.{with_joined}
use Rattle.buffer_targets.proofs.channels.leave_each.Given as goal

abbrev pub invariant-loop-channel : goal.invariant-loop-channel
invariant-loop-channel l = l.channels ≡ map (with_joined false) (take l.channel-index l.initial.channels) ++ drop l.channel-index l.initial.channels
