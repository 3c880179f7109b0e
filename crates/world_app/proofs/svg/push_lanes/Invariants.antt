use Rattle.std.proofs.Common.{◌≡◌, ◌++◌, ◌-◌, ◌≤◌, suc, flat_map}
use Rattle.raft_log.specs.Lists.{range_from}
use Rattle.world_app.specs.Picture.{lane}
use Rattle.world_app.proofs.svg.push_lanes.Given as goal

abbrev pub invariant-loop-node : goal.invariant-loop-node
invariant-loop-node l =
    (l.node ≤ l.size)
    × (l.out.items ++ flat_map (lane l.last l.rows) (range_from (suc l.node) (l.size - l.node)) ≡ l.initial.out.items ++ flat_map (lane l.last l.rows) (range_from 1 l.size))

abbrev pub decreases-loop-node : goal.decreases-loop-node
decreases-loop-node l = l.size - l.node
