-- What is left of a node by a restart.
use Rattle.std.specs.Prelude.{ℕ, suc, false, List, [], replicate, Option, None}
use Rattle.raft_log.specs.declared.entry.Entry.{Entry}
use Rattle.raft_log.specs.declared.message.Message.{Message}
use Rattle.raft_log.specs.declared.role.Role.TheVariants.{Follower}
use Rattle.raft_log.specs.Node.{Node}

module _ {B : Type 0} where
  -- a run begins with what was saved, and with what earlier runs sent: it follows, and knows nothing else
  abbrev pub started : ℕ → ℕ → ℕ → Option ℕ → List (Entry B) → List (Message B) → Node B
  started size boot term vote log sent =
      record {
        boot = boot;
        term = term;
        vote = vote;
        log = log;
        role = Follower;
        leader = None;
        commit = 0;
        applied = 0;
        voters = replicate size false;
        next = replicate size 0;
        matched = replicate size 0;
        live = None;
        attempts = 0;
        sent = sent;
      }

  -- the next run of a node
  abbrev pub restarted : ℕ → Node B → Node B
  restarted size s = started size (suc s.boot) s.term s.vote s.log s.sent

  -- the first run of a node, over a new store
  abbrev pub newborn : ℕ → Node B
  newborn size = started size 1 0 None [] []
