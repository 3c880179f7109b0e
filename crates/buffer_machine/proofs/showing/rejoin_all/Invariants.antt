use Rattle.std.proofs.Common.{◌≡◌, take}
use Rattle.buffer_machine.specs.Answering.{rejoins}
use Rattle.buffer_machine.proofs.showing.rejoin_all.Given as goal

abbrev pub invariant-loop-channel : goal.invariant-loop-channel
invariant-loop-channel l = l.effects.items ≡ rejoins (take l.channel-index l.channels)
