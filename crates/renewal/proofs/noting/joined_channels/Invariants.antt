use Rattle.std.proofs.Common.{◌≡◌, take}
use Rattle.renewal.specs.Lists.{joined_names}
use Rattle.renewal.proofs.noting.joined_channels.Given as goal

abbrev pub invariant-loop-channel : goal.invariant-loop-channel
invariant-loop-channel l = l.names.items ≡ joined_names (take l.channel-index l.channels)
