use Rattle.std.proofs.Common.{◌≡◌, ◌++◌, if◌then◌else◌, map, take, drop}
use Rattle.buffer_targets.specs.Targets.{over, seen_all}
use Rattle.buffer_targets.proofs.channels.see_each_open.Given as goal

abbrev pub invariant-loop-channel : goal.invariant-loop-channel
invariant-loop-channel l = l.channels ≡ map (λ c. if c.detached then c else over (seen_all l.here) c) (take l.channel-index l.initial.channels) ++ drop l.channel-index l.initial.channels
