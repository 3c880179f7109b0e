use Rattle.std.proofs.Common.{◌≡◌, ◌++◌, map}
use Rattle.std.specs.Vec.Iter.{into_iter_items}
use Rattle.buffer_commands.specs.declared.effect.Effect.TheVariants.{Show}
use Rattle.buffer_machine.proofs.showing.show_lines.Given as goal

abbrev pub invariant-loop-line : goal.invariant-loop-line
invariant-loop-line l =
    l.effects.items ++ map (λ x. Show l.origin x) (into_iter_items l.line-iterator) ≡ l.initial.effects.items ++ map (λ x. Show l.origin x) l.fn.lines.items
