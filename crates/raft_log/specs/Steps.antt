-- Steps that are prepared before they are saved, and take effect only then.
use Rattle.std.specs.Prelude.{◌≡◌, ◌+◌, ◌≤◌, ℕ, suc, List, [], ◌++◌, length, take, All, IsTrue}
use Rattle.raft_log.specs.declared.entry.Entry.{Entry}
use Rattle.raft_log.specs.declared.message.Message.{Message}
use Rattle.raft_log.specs.declared.role.Role.{Role}
use Rattle.raft_log.specs.declared.node_state.NodeState.{NodeState}
use Rattle.raft_log.specs.declared.node_state.Standing.{Standing}
use Rattle.raft_log.specs.declared.step.Step.{Step}
use Rattle.raft_log.specs.Batches.{batch_limit}
use Rattle.raft_log.specs.Logs.{entry_limit}
use Rattle.raft_log.specs.Node.{Node, is_leader}
use Rattle.raft_log.specs.Positions.{role_of}
use Rattle.raft_log.specs.Seen.{node_of}

-- a next index is at most one after the last entry
abbrev pub IsNextWithin : ℕ → ℕ → Type 0
IsNextWithin last next = (1 ≤ next) × (next ≤ suc last)

-- the commit is an index of a log that ends at this one, and so are a leader's matches; its next indexes are at most
-- one after it
pub record PlacesWithin (last : ℕ) (role : Role) (commit : ℕ) (next matched : List ℕ) : Type 0 where
  pub commit_within : commit ≤ last
  pub next_within : IsTrue (is_leader role) → All (IsNextWithin last) next
  pub match_within : IsTrue (is_leader role) → All (λ m. m ≤ last) matched

module _ {B : Type 0} where
  -- the indexes that a node keeps are within its log
  abbrev pub IsWithinLog : Standing → List (Entry B) → Type 0
  IsWithinLog s log = PlacesWithin (length log) (role_of s.position) s.commit s.peers.next s.peers.matched

  -- the log once a step takes effect: this many entries stay, and the step's own follow them
  abbrev pub log_after : List (Entry B) → Step B → List (Entry B)
  log_after log step = take step.keep log ++ step.entries.items

  -- the state once a step takes effect
  abbrev pub after : NodeState B → Step B → NodeState B
  after state step = record { standing = step.standing; log = log_after state.log step }

  -- the step to this standing, which leaves the log as it is and sends these messages
  pub record IsSending (standing : Standing) (log : List (Entry B)) (messages : List (Message B)) (step : Step B) : Type 0 where
    pub standing_is : step.standing ≡ standing
    pub keeps_all : step.keep ≡ length log
    pub adds_none : step.entries.items ≡ []
    pub sends : step.messages.items ≡ messages
    pub limit : length log ≤ entry_limit

  -- the step gives what the definition makes of a standing and a log, and what it sends
  abbrev pub Prepares : (Node B → Node B) → Standing → List (Entry B) → Step B → Type 0
  Prepares f standing log step =
      (sent : List (Message B)) → node_of step.standing (log_after log step) (sent ++ step.messages.items) ≡ f (node_of standing log sent)

  -- no more entries are kept than there were, few are added, and there is room for them; the run is the same, and the
  -- term does not decrease
  pub record IsSavable (standing : Standing) (log : List (Entry B)) (step : Step B) : Type 0 where
    pub kept : step.keep ≤ length log
    pub few : length step.entries.items ≤ batch_limit
    pub room : step.keep + length step.entries.items ≤ entry_limit
    pub boot : step.standing.boot ≡ standing.boot
    pub term : standing.term ≤ step.standing.term

  -- where the indexes of a node are within its log, they still are once the step takes effect
  abbrev pub KeepsWithinLog : Standing → List (Entry B) → Step B → Type 0
  KeepsWithinLog standing log step = IsWithinLog standing log → IsWithinLog step.standing (log_after log step)

  -- committed entries are unchanged, and the commit does not decrease
  abbrev pub KeepsCommitted : Standing → List (Entry B) → Step B → Type 0
  KeepsCommitted standing log step =
      (standing.commit ≤ length log → take standing.commit (log_after log step) ≡ take standing.commit log) × (standing.commit ≤ step.standing.commit)

  -- the step that a definition makes from a standing and a log, with what a node must know about each step
  pub record IsStep (f : Node B → Node B) (standing : Standing) (log : List (Entry B)) (step : Step B) : Type 0 where
    pub prepares : Prepares f standing log step
    pub savable : IsSavable standing log step
    pub places : KeepsWithinLog standing log step
    pub committed : KeepsCommitted standing log step
