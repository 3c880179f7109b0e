-- A node that is not opened yet: the start of its cell, its opening over a store, and what it leaves if it is never
-- opened.
use Rattle.std.specs.Prelude.{◌≡◌, ◌<◌, ℕ, suc, [], ◌∷◌, ◌++◌, length, Result, Ok, Err}
use Rattle.raft_node.specs.declared.node_fault.NodeFault.{NodeFault}
use Rattle.raft_node.specs.Machine.{Machine}
use Rattle.raft_node.specs.Parts.{Keeper, Parts}
use Rattle.raft_node.specs.Starting.{IsFirst, IsStarted}
use Rattle.raft_node.specs.Raft.{newborn}
use Rattle.recorder.specs.NodeLines.{fields_of}
use Rattle.ether.specs.declared.pass.Pass.{Pass}
use Rattle.ether.specs.Passes.{EtherParts, IsPass, looks_of, view_of}
use Rattle.ether.specs.Rule.{blank}
use Rattle.node_cells.specs.declared.record.Recording.{Recording}
use Rattle.node_cells.specs.Cells.{CellParts, CellRoom}
use Rattle.node_cells.specs.Groups.{ClosingParts, RecordOf}
use Rattle.node_cells.specs.Openings.{IsFresh}

-- its ether and its pass, where its lines will go, and whether it will record its turns
pub record UnopenedParts (Setup B L T U : Type 0) : Type 0 where
  pub ether : EtherParts Setup
  pub pass : Pass B L T
  pub upstream : U
  pub recording : Recording

module _ {Setup B L T : Type 0} where
  -- a pass of this ether to which nothing happened yet
  pub record IsUntouched (e : EtherParts Setup) (p : Pass B L T) : Type 0 where
    pub pass : IsPass e p
    pub view : view_of p ≡ blank e.size p.node
    pub looks : looks_of p ≡ []

module _ {Setup B L T U : Type 0} where
  -- the unopened node after those that were closed
  pub record IsNextUnopened (closing : ClosingParts Setup B L T) (u : UnopenedParts Setup B L T U) : Type 0 where
    pub ether : u.ether ≡ closing.ether
    pub node : (view_of u.pass).node ≡ length closing.views
    pub few : length closing.views < closing.ether.size

  -- its view, to which nothing happened, is the last, and all else is unchanged
  pub record HasClosedUnopened (old : ClosingParts Setup B L T) (u : UnopenedParts Setup B L T U) (new : ClosingParts Setup B L T) : Type 0 where
    pub ether : new.ether ≡ old.ether
    pub recording : new.recording ≡ old.recording
    pub views : new.views ≡ old.views ++ view_of u.pass ∷ []

module _ {Setup Hosted Store B L T E P U : Type 0} (k : Keeper Store B) where
  -- a cell that is opened over this store, or the node as it was and why it was not started
  abbrev pub HasOpenedFrom : UnopenedParts Setup B L T U → Store → Result (CellRoom Setup Hosted Store B L T E P U) (UnopenedParts Setup B L T U × NodeFault) → Type 0
  HasOpenedFrom u store (Ok c) = IsFresh k u.ether u.pass store u.upstream u.recording c.parts
  HasOpenedFrom u store (Err back) = (back.0 ≡ u) × IsStarted {Hosted = Hosted} k (suc u.pass.node) u.ether.size u.ether.setup store (Err back.1)

  -- a cell of a node that was started, from whatever store
  abbrev pub IsOver : EtherParts Setup → Pass B L T → Parts Setup Hosted Store B → U → Recording → CellParts Setup Hosted Store B L T E P U → Type 0
  IsOver ether pass node upstream recording c =
      (store : Store) → IsFirst k (suc pass.node) ether.size ether.setup store node → IsFresh k ether pass store upstream recording c

module _ (M : Machine) where
  -- The record of a node that was never opened: no turns, and the fields of a node that nothing happened to.
  pub record IsEmptyRecord (size node : ℕ) (r : RecordOf M) : Type 0 where
    pub node_is : r.node ≡ node
    pub turns : r.turns.items ≡ []
    pub state : r.state ≡ fields_of {B = M.Body} (newborn size)
