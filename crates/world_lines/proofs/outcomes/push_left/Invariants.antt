use Rattle.std.proofs.Common.{◌≡◌, ◌++◌, drop}
use Rattle.world_lines.specs.OutputText.{left_lines}
use Rattle.world_lines.proofs.outcomes.push_left.Given as goal

abbrev pub invariant-loop-effect : goal.invariant-loop-effect
invariant-loop-effect g l =
    l.out.items ++ left_lines g.E.Words.words l.number l.node l.place (drop l.effect-index l.effects) ≡ l.initial.out.items ++ left_lines g.E.Words.words l.number l.node l.place l.effects
