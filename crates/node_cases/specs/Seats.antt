-- A pass together with the node that it stands for.
use Rattle.std.specs.Prelude.{◌≡◌, ℕ, suc, List, ◌++◌, length}
use Rattle.raft_log.specs.declared.message.Message.{Message}
use Rattle.raft_log.specs.Seen.{seen}
use Rattle.raft_node.specs.Machine.{Machine}
use Rattle.raft_node.specs.Parts.{Parts, size_of}
use Rattle.raft_node.specs.Steps.{Act, turn}
use Rattle.world_views.specs.Own.{EventOf, own_state}
use Rattle.ether.specs.declared.pass.Pass.{Pass}
use Rattle.ether.specs.Passes.{EtherParts, IsOpenPass, view_of}

-- The pass's view shows the node as it is; it sent so many messages.
pub record IsSeated {Setup Hosted Store B L T : Type 0} (e : EtherParts Setup) (p : Pass B L T) (n : Parts Setup Hosted Store B) (sent : ℕ) : Type 0 where
  pub opened : IsOpenPass e p
  pub state : (view_of p).state ≡ seen n.state (view_of p).state.sent
  pub size : size_of n.state ≡ e.size
  pub id : n.id ≡ suc p.node
  pub setup : n.setup ≡ e.setup
  pub count : sent ≡ length (view_of p).state.sent

module _ (M : Machine) {Setup Hosted Store : Type 0} where
  -- A node did this, and sent these messages by it.
  pub record HasActed (act : Act M) (old new : Parts Setup Hosted Store M.Body) (messages : List (Message M.Body)) : Type 0 where
    pub comes : (sent : List (Message M.Body)) → (turn M (size_of old.state) old.id act (seen old.state sent)).node ≡ seen new.state (sent ++ messages)
    pub id : new.id ≡ old.id
    pub size : size_of new.state ≡ size_of old.state
    pub setup : new.setup ≡ old.setup

  -- This happened to a node, which sent these messages by it.
  pub record HasDone (e : EventOf M) (old new : Parts Setup Hosted Store M.Body) (messages : List (Message M.Body)) : Type 0 where
    pub comes : (sent : List (Message M.Body)) → own_state M (size_of old.state) old.id (seen old.state sent) e ≡ seen new.state (sent ++ messages)
    pub id : new.id ≡ old.id
    pub size : size_of new.state ≡ size_of old.state
    pub setup : new.setup ≡ old.setup
