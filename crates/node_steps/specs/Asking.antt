-- When a node does what it is asked.
use Rattle.std.specs.Prelude.{ℕ, suc, ◌==◌, Bool, true, false, ◌&&◌, length, Option, Some, None, nat_le}
use Rattle.machine_laws.specs.declared.class.Source.{Source}
use Rattle.machine_laws.specs.declared.class.Source.TheVariants as source
use Rattle.raft_log.specs.declared.node_state.Live.{Live}
use Rattle.raft_log.specs.Logs.{entry_limit}
use Rattle.raft_log.specs.Node.{Node, is_leader}

module _ {B : Type 0} where
  -- a client's request is taken at its node, in its run, a mark in the run that it names; that a node is gone, anywhere
  abbrev pub may_ask : ℕ → Node B → Source → Bool
  may_ask i s (source.Client origin) = origin.0 == i && origin.1 == s.boot
  may_ask i s (source.Run node boot) = node == i && boot == s.boot
  may_ask i s source.Node = true
  may_ask i s source.Leader = false

  -- it leads, or knows who does
  abbrev pub finds_leader : Node B → Option ℕ → Bool
  finds_leader s None = is_leader s.role
  finds_leader s (Some j) = true

  -- its log takes no more entries
  abbrev pub is_full : Node B → Bool
  is_full s = nat_le entry_limit (length s.log)

  -- the session that it would open next
  abbrev pub new_session : Node B → Live
  new_session s = record { id = (s.term, suc s.attempts); next = 1 }
