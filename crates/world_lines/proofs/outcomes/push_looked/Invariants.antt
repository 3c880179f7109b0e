use Rattle.std.proofs.Common.{◌≡◌, ◌++◌, drop, flat_map}
use Rattle.world_lines.specs.OutputText.{played_line}
use Rattle.world_lines.proofs.outcomes.push_looked.Given as goal

abbrev pub invariant-loop-line : goal.invariant-loop-line
invariant-loop-line g l =
    l.out.items ++ flat_map (played_line g.P.Spelled.spelled l.number l.node) (drop l.line-index l.lines) ≡ l.initial.out.items ++ flat_map (played_line g.P.Spelled.spelled l.number l.node) l.lines
