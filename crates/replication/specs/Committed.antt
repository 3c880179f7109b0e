-- What a leader may commit, of its own state.
use Rattle.std.specs.Prelude.{ℕ, List, length}
use Rattle.raft_log.specs.declared.entry.Entry.{Entry}
use Rattle.raft_log.specs.declared.node_state.Standing.{Standing}
use Rattle.raft_log.specs.Lists.{with_item}
use Rattle.raft_log.specs.Votes.{commit_place}

-- the largest place above the commit that commits, this node's whole log counted; else the commit
abbrev pub committed_by : {B : Type 0} → Standing → List (Entry B) → ℕ → ℕ
committed_by s log id = commit_place s.peers.size (with_item s.peers.matched id (length log)) log s.term s.commit (length log)
