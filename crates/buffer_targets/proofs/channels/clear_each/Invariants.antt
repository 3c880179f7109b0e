use Rattle.std.proofs.Common.{◌≡◌, ◌++◌, map, take, drop}
use Rattle.buffer_targets.specs.Targets.{over, cleared}
use Rattle.buffer_targets.proofs.channels.clear_each.Given as goal

abbrev pub invariant-loop-channel : goal.invariant-loop-channel
invariant-loop-channel l = l.channels ≡ map (over cleared) (take l.channel-index l.initial.channels) ++ drop l.channel-index l.initial.channels
