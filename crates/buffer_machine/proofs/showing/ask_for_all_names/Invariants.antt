use Rattle.std.proofs.Common.{◌≡◌, ◌++◌, take}
use Rattle.std.specs.Prelude.{flat_map}
use Rattle.buffer_machine.specs.Answering.{sent_at_attach}
use Rattle.buffer_machine.proofs.showing.ask_for_all_names.Given as goal

abbrev pub invariant-loop-channel : goal.invariant-loop-channel
invariant-loop-channel l = l.effects.items ≡ l.initial.effects.items ++ flat_map (sent_at_attach l.origin) (take l.channel-index l.channels)
