-- The steps by which a node answers, by the whole message.
use Rattle.std.proofs.Common.{ℕ, Bool, List}
use Rattle.raft_log.specs.declared.entry.Entry.{Entry}
use Rattle.raft_log.specs.declared.message.Message.{Message}
use Rattle.raft_log.specs.Node.{Node}
use Rattle.election.specs.Elections as election
use Rattle.replication.specs.Replication as replication

module _ {B : Type 0} where
  abbrev pub grants : Node B → Message B → ℕ → ℕ → Bool
  grants s m index last = election.grants s m.from m.term index last

  abbrev pub on_request_vote : ℕ → Node B → Message B → ℕ → ℕ → Node B
  on_request_vote i s m index last = election.on_request_vote i s m.from m.term index last

  abbrev pub on_vote : B → ℕ → Node B → Message B → Bool → Node B
  on_vote blank size s m granted = replication.on_vote blank size s m.from m.term granted

  abbrev pub appended : ℕ → Node B → Message B → ℕ → List (Entry B) → ℕ → Node B
  appended i s m prev entries commit = replication.appended i s m.from prev entries commit

  abbrev pub accepted : ℕ → Node B → Message B → ℕ → ℕ → List (Entry B) → ℕ → Node B
  accepted i s m prev prev_term entries commit = replication.accepted i s m.from prev prev_term entries commit

  abbrev pub on_append : ℕ → Node B → Message B → ℕ → ℕ → List (Entry B) → ℕ → Node B
  on_append i s m prev prev_term entries commit = replication.on_append i s m.from m.term prev prev_term entries commit

  abbrev pub on_append_reply : ℕ → ℕ → Node B → Message B → Bool → ℕ → Node B
  on_append_reply size i s m ok place = replication.on_append_reply size i s m.from m.term ok place
