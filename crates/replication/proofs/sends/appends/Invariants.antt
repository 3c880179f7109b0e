use Rattle.std.proofs.Common.{◌≡◌, [], ◌++◌, map, drop}
use Rattle.raft_log.specs.Seen.{node_of}
use Rattle.replication.specs.Replication.{append_for}
use Rattle.replication.proofs.sends.appends.Given as goal

abbrev pub invariant-loop-node : goal.invariant-loop-node
invariant-loop-node g l =
    l.all.items ++ map (append_for l.id (node_of l.standing l.log [])) (drop l.node-index l.node-items)
    ≡ map (append_for l.id (node_of l.standing l.log [])) l.node-items
