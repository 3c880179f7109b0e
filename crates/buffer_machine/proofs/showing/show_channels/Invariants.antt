use Rattle.std.proofs.Common.{◌≡◌, ◌++◌, take}
use Rattle.std.specs.Prelude.{flat_map}
use Rattle.buffer_machine.specs.Answering.{shown_at_attach}
use Rattle.buffer_machine.proofs.showing.show_channels.Given as goal

abbrev pub invariant-loop-channel : goal.invariant-loop-channel
invariant-loop-channel l =
    l.effects.items ≡ l.initial.effects.items ++ flat_map (shown_at_attach l.player.offset l.nick l.player.origin l.player.reader) (take l.channel-index l.channels)
