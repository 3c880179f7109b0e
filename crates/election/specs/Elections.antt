-- The steps of an election, each for one node of a group of this size.
use Rattle.std.specs.Prelude.{ℕ, suc, ◌==◌, Bool, true, false, ◌&&◌, ◌||◌, List, [], ◌∷◌, length, map, replicate, Option, None, Some, nat_le, if◌then◌else◌}
use Rattle.raft_log.specs.declared.message.Message.{Message}
use Rattle.raft_log.specs.declared.message.Kind.TheVariants.{RequestVote, Vote}
use Rattle.raft_log.specs.declared.role.Role.TheVariants.{Candidate, Leader}
use Rattle.raft_log.specs.Lists.{with_item, others}
use Rattle.raft_log.specs.Logs.{last_term, up_to_date}
use Rattle.raft_log.specs.Votes.{majority}
use Rattle.raft_log.specs.Node.{Node, is_leader, is_candidate, message, sending}
use Rattle.wire_bytes.specs.Limits.{number_limit}

-- no vote was given in this term, or this node got it
abbrev pub is_free_for : Option ℕ → ℕ → Bool
is_free_for None node = true
is_free_for (Some other) node = other == node

module _ {B : Type 0} where
  -- the next term, with a vote for itself
  abbrev pub begun : ℕ → ℕ → Node B → Node B
  begun size i s =
      record s { term = suc s.term; vote = Some i; role = Candidate; leader = None; voters = with_item (replicate size false) i true }

  -- all others are asked for their votes in this term, for a log with this end
  abbrev pub vote_requests : ℕ → ℕ → ℕ → ℕ → ℕ → List (Message B)
  vote_requests size i t index last = map (λ j. message t i j (RequestVote index last)) (others size i)

  -- the next term is begun, and the others are asked
  abbrev pub asking : ℕ → ℕ → Node B → Node B
  asking size i s = sending (begun size i s) (vote_requests size i (suc s.term) (length s.log) (last_term s.log))

  -- a node that waited too long for a leader begins an election, unless it leads or its terms are spent
  abbrev pub timed_out : ℕ → ℕ → Node B → Node B
  timed_out size i s = if is_leader s.role || nat_le number_limit s.term then s else asking size i s

  -- the term is the node's own, the vote is free, and a log that ends at this place in this term is at least as up to
  -- date
  abbrev pub grants : Node B → ℕ → ℕ → ℕ → ℕ → Bool
  grants s from t index last = (s.term == t) && (is_free_for s.vote from && up_to_date last index (last_term s.log) (length s.log))

  -- a request for a vote, of a term that is not larger, is always answered
  abbrev pub on_request_vote : ℕ → Node B → ℕ → ℕ → ℕ → ℕ → Node B
  on_request_vote i s from t index last =
      if grants s from t index last
      then sending (record s { vote = Some from }) (message s.term i from (Vote true) ∷ [])
      else sending s (message s.term i from (Vote false) ∷ [])

  -- a new leader sends to each node from the end of its log on, and does not know of any log that it is the same
  abbrev pub leading : ℕ → Node B → Node B
  leading size s = record s { role = Leader; leader = None; next = replicate size (suc (length s.log)); matched = replicate size 0 }

  -- it leads if a majority voted for it
  abbrev pub elected : ℕ → Node B → Node B
  elected size s = if majority size s.voters then leading size s else s

  -- a candidate of this term adds a node that grants to the set of its voters; a majority makes it leader
  abbrev pub on_vote : ℕ → Node B → ℕ → ℕ → Bool → Node B
  on_vote size s from t granted =
      if is_candidate s.role && ((s.term == t) && granted)
      then elected size (record s { voters = with_item s.voters from true })
      else s
