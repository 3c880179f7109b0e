-- The state of a node as plain data, and what it sends.
use Rattle.std.specs.Prelude.{ℕ, Bool, true, false, List, ◌++◌, Option, None, nat_lt, if◌then◌else◌}
use Rattle.raft_log.specs.declared.entry.Entry.{Entry}
use Rattle.raft_log.specs.declared.message.Kind.{Kind}
use Rattle.raft_log.specs.declared.message.Message.{Message}
use Rattle.raft_log.specs.declared.role.Role.{Role}
use Rattle.raft_log.specs.declared.role.Role.TheVariants.{Follower, Candidate, Leader}
use Rattle.raft_log.specs.declared.node_state.Live.{Live}

-- what a node holds, and what it sent so far: "State" in Figure 2 of the Raft paper
pub record Node (B : Type 0) : Type 0 where
  pub boot : ℕ
  pub term : ℕ
  pub vote : Option ℕ
  pub log : List (Entry B)
  pub role : Role
  pub leader : Option ℕ
  pub commit : ℕ
  pub applied : ℕ
  pub voters : List Bool  -- of each node, whether it is in the set of those that voted for this one
  pub next : List ℕ  -- of each node, the index of the next entry to send to it
  pub matched : List ℕ  -- of each node, the index up to which its log is known to be the same
  pub live : Option Live
  pub attempts : ℕ
  pub sent : List (Message B)  -- only grows, restarts included

-- it leads
abbrev pub is_leader : Role → Bool
is_leader Follower = false
is_leader Candidate = false
is_leader Leader = true

-- it asks for votes
abbrev pub is_candidate : Role → Bool
is_candidate Follower = false
is_candidate Candidate = true
is_candidate Leader = false

module _ {B : Type 0} where
  -- a message of this term from one node to another
  abbrev pub message : ℕ → ℕ → ℕ → Kind B → Message B
  message t i j k = record { term = t; from = i; to = j; kind = k }

  -- these messages are sent
  abbrev pub sending : Node B → List (Message B) → Node B
  sending s ms = record s { sent = s.sent ++ ms }

  -- a larger term is taken, with no vote; its node becomes a follower, and a session that it led is
  -- over
  abbrev pub raised : Node B → ℕ → Node B
  raised s t = if nat_lt s.term t then record s { term = t; vote = None; role = Follower; leader = None; live = None } else s
