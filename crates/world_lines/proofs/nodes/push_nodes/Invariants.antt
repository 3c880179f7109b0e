use Rattle.std.proofs.Common.{◌≡◌, ◌++◌, ◌-◌, drop}
use Rattle.world_lines.specs.OutputText.{node_lines}
use Rattle.world_lines.proofs.nodes.push_nodes.Given as goal

abbrev pub invariant-loop-number : goal.invariant-loop-number
invariant-loop-number g l =
    l.out.items ++ node_lines l.number (drop (l.number - 1) l.world.nodes) ≡ l.initial.out.items ++ node_lines 1 l.world.nodes
