use Rattle.std.proofs.Common.{◌≡◌, ◌++◌, drop}
use Rattle.raft_log.specs.declared.role.Role.TheVariants.{Follower}
use Rattle.world_app.specs.Picture.{line_from}
use Rattle.world_app.proofs.lanes.push_line.Given as goal

abbrev pub invariant-loop-row : goal.invariant-loop-row
invariant-loop-row l =
    l.out.items ++ line_from l.last l.node l.role l.since (drop l.row-index l.rows) ≡ l.initial.out.items ++ line_from l.last l.node Follower 0 l.rows
