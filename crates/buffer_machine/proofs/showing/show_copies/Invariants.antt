use Rattle.std.proofs.Common.{◌≡◌, ◌++◌, take}
use Rattle.buffer_machine.specs.Effects.{copies}
use Rattle.buffer_machine.proofs.showing.show_copies.Given as goal

abbrev pub invariant-loop-line : goal.invariant-loop-line
invariant-loop-line l = l.effects.items ≡ l.initial.effects.items ++ copies (take l.line-index l.lines) l.origin
