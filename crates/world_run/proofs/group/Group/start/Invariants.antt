use Rattle.std.proofs.Common.{◌≡◌, ◌-◌, ◌≤◌, length, replicate}
use Rattle.raft_node.specs.Raft.{newborn}
use Rattle.world_run.specs.Groups.{AreCells, nodes_in}
use Rattle.world_run.proofs.group.Group.start.Given as goal

abbrev pub invariant-loop-last : goal.invariant-loop-last
invariant-loop-last g l =
    (length l.cells.items ≡ l.last) × (l.last ≤ l.size) × AreCells l.setup l.size 1 l.cells.items × (nodes_in l.cells.items ≡ replicate l.last (newborn l.size))

abbrev pub decreases-loop-last : goal.decreases-loop-last
decreases-loop-last g l = l.size - l.last
