use Rattle.std.proofs.Common.{◌≡◌, ◌++◌, take}
use Rattle.std.specs.Prelude.{flat_map}
use Rattle.buffer_machine.specs.Effects.{copies}
use Rattle.buffer_machine.proofs.showing.show_copies_to_all.Given as goal

abbrev pub invariant-loop-origin : goal.invariant-loop-origin
invariant-loop-origin l = l.effects.items ≡ l.initial.effects.items ++ flat_map (copies l.lines) (take l.origin-index l.origins)
