use Rattle.std.proofs.Common.{◌≡◌, [], false, map, take}
use Rattle.buffer_lines.specs.Stamps.{ring}
use Rattle.buffer_targets.specs.Targets.{channel, none_seen, target}
use Rattle.buffer_targets.proofs.channels.new_channels.Given as goal

abbrev pub invariant-loop-name : goal.invariant-loop-name
invariant-loop-name l = l.channels.items ≡ map (λ n. channel (target n (ring [] l.size) none_seen) false false) (take l.name-index l.names)
