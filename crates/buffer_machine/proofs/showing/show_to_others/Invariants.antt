use Rattle.std.proofs.Common.{◌≡◌, ◌++◌, [], ◌∷◌, take}
use Rattle.std.specs.Prelude.{flat_map, option_to_list}
use Rattle.buffer_machine.specs.Effects.{copies}
use Rattle.buffer_machine.specs.Answering.{others}
use Rattle.buffer_machine.proofs.showing.show_to_others.Given as goal

abbrev pub invariant-loop-origin : goal.invariant-loop-origin
invariant-loop-origin l = l.effects.items ++ flat_map (copies (l.fn.line ∷ [])) (option_to_list l.waiting) ≡ flat_map (copies (l.fn.line ∷ [])) (others l.own (take l.origin-index l.origins))
