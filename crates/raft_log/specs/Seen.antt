-- The code's state as plain data.
use Rattle.std.specs.Prelude.{◌≡◌, List}
use Rattle.raft_log.specs.declared.entry.Entry.{Entry}
use Rattle.raft_log.specs.declared.message.Message.{Message}
use Rattle.raft_log.specs.declared.node_state.NodeState.{NodeState}
use Rattle.raft_log.specs.declared.node_state.Standing.{Standing}
use Rattle.raft_log.specs.Positions.{role_of, leader_of, live_of}
use Rattle.raft_log.specs.Node.{Node}

module _ {B : Type 0} where
  -- the node with this standing and this log, which sent these messages so far
  abbrev pub node_of : Standing → List (Entry B) → List (Message B) → Node B
  node_of s log sent =
      record {
        boot = s.boot;
        term = s.term;
        vote = s.vote;
        log = log;
        role = role_of s.position;
        leader = leader_of s.position;
        commit = s.commit;
        applied = s.applied;
        voters = s.peers.voters;
        next = s.peers.next;
        matched = s.peers.matched;
        live = live_of s.position;
        attempts = s.attempts;
        sent = sent;
      }

  -- the code keeps no list of what was sent
  abbrev pub seen : NodeState B → List (Message B) → Node B
  seen state sent = node_of state.standing state.log sent

  -- by a step that sends nothing, the standing becomes this one and the log is unchanged
  abbrev pub Becomes : (Node B → Node B) → Standing → List (Entry B) → Standing → Type 0
  Becomes step old log new = (sent : List (Message B)) → node_of new log sent ≡ step (node_of old log sent)
