use Rattle.std.proofs.Common.{◌≡◌, ◌≤◌, length}
use Rattle.raft_log.specs.Lists.{with_item}
use Rattle.raft_log.specs.Votes.{commit_place}
use Rattle.replication.specs.Committed.{committed_by}
use Rattle.replication.proofs.replies.commit_place.Given as goal

abbrev pub invariant-loop-place : goal.invariant-loop-place
invariant-loop-place g l = record {
  within : l.place ≤ length l.log;
  same : committed_by l.standing l.log l.fn.id ≡ commit_place l.standing.peers.size (with_item l.standing.peers.matched l.fn.id (length l.log)) l.log l.standing.term l.standing.commit l.place;
}

abbrev pub decreases-loop-place : goal.decreases-loop-place
decreases-loop-place g l = l.place
