-- The nodes of a world as the code has them, and what events do.
use Rattle.std.specs.Prelude.{◌≡◌, ℕ, suc, List, [], ◌∷◌, ◌++◌, length, map, None, Some}
use Rattle.raft_log.specs.declared.message.Message.{Message}
use Rattle.raft_log.specs.declared.node_state.NodeState.{NodeState}
use Rattle.raft_log.specs.Lists.{item}
use Rattle.raft_log.specs.Node.{Node}
use Rattle.raft_log.specs.Seen.{seen}
use Rattle.raft_node.specs.Machine.{Machine}
use Rattle.raft_node.specs.Parts.{Parts, size_of}
use Rattle.raft_node.specs.Raft.{restarted}
use Rattle.raft_node.specs.Steps.{Act, Own, turn, own}
use Rattle.agreement.specs.World.{start}
use Rattle.world_events.specs.declared.event.Event.{Event}
use Rattle.world_run.specs.declared.outcome.Outcome.{Outcome}
use Rattle.world_run.specs.Told.{event_of, events_of, out_of, outs_of}
use Rattle.world_run.specs.World as world

-- a node with its machine and its store, and all that it sent
pub record CellParts (Setup Hosted Store B : Type 0) : Type 0 where
  pub node : Parts Setup Hosted Store B
  pub sent : List (Message B)

-- the nodes of a world, and what came out of each event
pub record WorldParts (Setup B E P : Type 0) : Type 0 where
  pub setup : Setup
  pub nodes : List (Node B)
  pub outs : List (Outcome E P)

module _ {Setup Hosted Store B : Type 0} where
  -- the node, with what it sent
  abbrev pub node_in : CellParts Setup Hosted Store B → Node B
  node_in c = seen c.node.state c.sent

  -- the nodes
  abbrev pub nodes_in : List (CellParts Setup Hosted Store B) → List (Node B)
  nodes_in cells = map node_in cells

  -- It is the node of this number in a group of this size, with this setup, and is up.
  pub record IsCell (setup : Setup) (size id : ℕ) (c : CellParts Setup Hosted Store B) : Type 0 where
    pub id_is : c.node.id ≡ id
    pub size_is : size_of c.node.state ≡ size
    pub setup_is : c.node.setup ≡ setup
    pub is_up : c.node.down ≡ None

  -- each of them is, from the node of this number on
  abbrev pub AreCells : Setup → ℕ → ℕ → List (CellParts Setup Hosted Store B) → Type 0
  AreCells setup size id [] = Unit {0}
  AreCells setup size id (c ∷ cells) = IsCell setup size id c × AreCells setup size (suc id) cells

  -- all nodes of a group of this size
  abbrev pub IsGroup : Setup → ℕ → List (CellParts Setup Hosted Store B) → Type 0
  IsGroup setup size cells = AreCells setup size 1 cells × (length cells ≡ size)

  -- the same node of the same group, with the same setup, which is up
  pub record IsStillUp (old new : CellParts Setup Hosted Store B) : Type 0 where
    pub id : new.node.id ≡ old.node.id
    pub size : size_of new.node.state ≡ size_of old.node.state
    pub setup : new.node.setup ≡ old.node.setup
    pub is_up : new.node.down ≡ None

  -- A node stopped and began its next run over what it had saved.
  pub record HasBegunAnew (old new : CellParts Setup Hosted Store B) : Type 0 where
    pub still_up : IsStillUp old new
    pub runs : node_in new ≡ restarted (size_of old.node.state) (node_in old)
    pub sent : new.sent ≡ old.sent

-- this is the state of the node of this number, whatever it sent
abbrev pub IsNodeOf : {B : Type 0} → List (Node B) → ℕ → NodeState B → Type 0
IsNodeOf {B = B} nodes i state = (sent : List (Message B)) × (item nodes i ≡ Some (seen state sent))

module _ (M : Machine) where
  module _ {Setup Hosted Store : Type 0} where
    -- This happened to a node, and this came out.
    pub record HasOwned (o : Own M) (old new : CellParts Setup Hosted Store M.Body) (out : Outcome M.Effect M.Played) : Type 0 where
      pub still_up : IsStillUp old new
      pub comes : own M (size_of old.node.state) old.node.id o (node_in old) ≡ record { node = node_in new; out = out_of M out }
      pub more : List (Message M.Body)
      pub sent : new.sent ≡ old.sent ++ more

    -- A node did this, and nothing of it was sent.
    pub record HasActedUnsent (act : Act M) (old new : CellParts Setup Hosted Store M.Body) : Type 0 where
      pub still_up : IsStillUp old new
      pub becomes : node_in new ≡ record (turn M (size_of old.node.state) old.node.id act (node_in old)).node { sent = old.sent }

    -- This happened to the node of this number, if there is one, and this came out.
    pub record HasOwnedAt (i : ℕ) (o : Own M) (old new : List (CellParts Setup Hosted Store M.Body)) (out : Outcome M.Effect M.Played) : Type 0 where
      pub nodes : nodes_in new ≡ world.world_by M (nodes_in old) i o (item (nodes_in old) i)
      pub comes : out_of M out ≡ world.out_by M (nodes_in old) i o (item (nodes_in old) i)

    -- This event happened to a group, and this came out.
    pub record HasHappened (e : Event M.Body M.Line M.Target) (old new : List (CellParts Setup Hosted Store M.Body)) (out : Outcome M.Effect M.Played) : Type 0 where
      pub nodes : nodes_in new ≡ world.happens M (nodes_in old) (event_of M e)
      pub comes : out_of M out ≡ world.out_of M (nodes_in old) (event_of M e)

  -- The world is that of the definitions after these events, of this many nodes over new stores, and so is what came
  -- out.
  pub record IsWorld {Setup : Type 0} (size : ℕ) (es : List (Event M.Body M.Line M.Target)) (w : WorldParts Setup M.Body M.Effect M.Played) : Type 0 where
    pub nodes : w.nodes ≡ world.run M (events_of M es) (start size)
    pub outs : outs_of M w.outs ≡ world.outputs M size (events_of M es)
