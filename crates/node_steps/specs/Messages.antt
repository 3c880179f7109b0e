-- What a node does with each message.
use Rattle.std.specs.Prelude.{ℕ, Bool, ◌&&◌, not, ◌==◌, nat_le, if◌then◌else◌}
use Rattle.raft_log.specs.declared.message.Message.{Message}
use Rattle.raft_log.specs.declared.message.Kind.{Kind}
use Rattle.raft_log.specs.declared.message.Kind.TheVariants.{RequestVote, Vote, Append, AppendReply, Forward}
use Rattle.raft_log.specs.Node.{Node, raised}
use Rattle.election.specs.Elections.{on_request_vote}
use Rattle.replication.specs.Replication.{on_append, on_append_reply, on_forward, on_vote}

module _ {B : Type 0} where
  -- the step of a message whose term is not larger, by its kind
  abbrev pub handled : B → ℕ → ℕ → Node B → Message B → Kind B → Node B
  handled blank size i s m (RequestVote index last) = on_request_vote i s m.from m.term index last
  handled blank size i s m (Vote granted) = on_vote blank size s m.from m.term granted
  handled blank size i s m (Append b) = on_append i s m.from m.term b.prev_index b.prev_term b.entries b.commit
  handled blank size i s m (AppendReply ok place) = on_append_reply size i s m.from m.term ok place
  handled blank size i s m (Forward body) = on_forward s body

  -- it is to this node, from another one of the group
  abbrev pub is_heard : ℕ → ℕ → Message B → Bool
  is_heard size i m = m.to == i && (not (m.from == i) && (nat_le 1 m.from && nat_le m.from size))

  -- a message that is heard first raises the term to its own; any other changes nothing
  abbrev pub on_message : B → ℕ → ℕ → Node B → Message B → Node B
  on_message blank size i s m = if is_heard size i m then handled blank size i (raised s m.term) m m.kind else s
