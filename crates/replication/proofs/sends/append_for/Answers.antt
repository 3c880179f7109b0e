use Rattle.std.proofs.Common.{◌≡◌, ◌≤◌, suc, ℕ, List, length, take, drop, ap, arith, length-take, length-drop}
use Rattle.raft_log.specs.declared.entry.Entry.{Entry}
use Rattle.raft_log.specs.Batches.{batch_limit}
use Rattle.raft_log.specs.Lists.{item_or}
use Rattle.replication.proofs.Asking.{item-within}
use Rattle.replication.proofs.sends.append_for.Goals as goal

pub new-batch-requires : goal.new-batch-requires
new-batch-requires g c =
    let log : List (Entry g.row.B.Denot) = c.args.log.now in
    let prev : ℕ = c.new-prev.result in
    let within : item_or c.args.standing.now.peers.next c.args.node 0 ≤ suc (length log) = item-within (length log) c.args.standing.now.peers.next c.args.node c.requires in
    let count : length c.in_ok-entries.entries.items ≡ length (take batch_limit (drop prev log)) = ap (length {A = Entry g.row.B.Denot}) c.in_ok-entries.ensures in
    let some = length-take batch_limit (drop prev log) in
    let rest = length-drop prev log in
    (omega arith, omega arith)
