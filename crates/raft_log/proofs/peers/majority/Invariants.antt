use Rattle.std.proofs.Common.{◌≡◌, ◌+◌, ◌≤◌, drop}
use Rattle.raft_log.specs.Votes.{tally}
use Rattle.raft_log.proofs.peers.majority.Given as goal

abbrev pub invariant-loop-is_in : goal.invariant-loop-is_in
invariant-loop-is_in l = (l.count + tally (drop l.is_in-index l.set) ≡ tally l.set) × (l.count ≤ l.is_in-index)
