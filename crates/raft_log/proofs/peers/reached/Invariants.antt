use Rattle.std.proofs.Common.{◌≡◌, ◌+◌, ◌≤◌, drop, map, nat_le}
use Rattle.raft_log.specs.Votes.{tally}
use Rattle.raft_log.proofs.peers.reached.Given as goal

abbrev pub invariant-loop-other : goal.invariant-loop-other
invariant-loop-other l = record {
  so_far : l.count + tally (map (λ m. nat_le l.index m) (drop l.other-index l.indexes)) ≡ tally (map (λ m. nat_le l.index m) l.indexes);
  within : l.count ≤ l.other-index;
}
