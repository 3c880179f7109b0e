-- What a note is to its node, and the state of a node.
use Rattle.std.specs.Prelude.{ℕ, Bool, true, false, length, Option, Some, None, option_map}
use Rattle.raft_log.specs.declared.role.Role.{Role}
use Rattle.raft_log.specs.declared.role.Role.TheVariants.{Follower, Candidate, Leader}
use Rattle.raft_log.specs.declared.node_state.NodeState.{NodeState}
use Rattle.raft_log.specs.Positions.{role_of, live_of}
use Rattle.raft_node.specs.declared.node_fault.Cause.{Cause}
use Rattle.world_views.specs.Inputs.{NodeInput}
use Rattle.raft_node.specs.declared.input.Input.TheVariants as input
use Rattle.node_notes.specs.declared.note.Note.{Note}
use Rattle.node_notes.specs.declared.note.Note.TheVariants.{Timeout, Beat, Ask, Opened, Closed, Heard, Claim, Wake, Restart, End}
use Rattle.node_notes.specs.declared.status.Status.{Status}

-- what happens to the node by a note; nothing if it is for the worker
abbrev pub input_of : {B L : Type 0} → Note B L → Option (NodeInput B L)
input_of (Timeout contacts) = Some input.Timeout
input_of Beat = Some input.Beat
input_of (Ask body) = Some (input.Ask body)
input_of Opened = Some input.Opened
input_of Closed = Some input.Closed
input_of (Heard at line) = Some (input.Heard at line)
input_of Claim = Some input.Claim
input_of Wake = None
input_of Restart = None
input_of End = None

-- the status of a node in this state
abbrev pub status_of : {B : Type 0} → NodeState B → Option ℕ → Option Cause → Status
status_of state next_claim down = record {
  role = role_of state.standing.position;
  boot = state.standing.boot;
  term = state.standing.term;
  last = length state.log;
  commit = state.standing.commit;
  applied = state.standing.applied;
  session = option_map (λ l. l.id) (live_of state.standing.position);
  next_claim = next_claim;
  down = down;
}

-- a node of this role that is down for this reason, if it is, leads
abbrev pub leads_up : Role → Option Cause → Bool
leads_up Leader None = true
leads_up Leader (Some cause) = false
leads_up Follower down = false
leads_up Candidate down = false

-- the node leads and is up
abbrev pub leads : Status → Bool
leads status = leads_up status.role status.down
