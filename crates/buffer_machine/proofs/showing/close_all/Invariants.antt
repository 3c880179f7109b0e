use Rattle.std.proofs.Common.{◌≡◌, ◌++◌, map, take}
use Rattle.buffer_commands.specs.declared.effect.Effect.TheVariants.{Close}
use Rattle.buffer_machine.proofs.showing.close_all.Given as goal

abbrev pub invariant-loop-origin : goal.invariant-loop-origin
invariant-loop-origin l = l.effects.items ≡ l.initial.effects.items ++ map (λ o. Close o) (take l.origin-index l.origins)
