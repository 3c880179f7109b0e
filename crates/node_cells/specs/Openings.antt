-- How a cell is opened, what it takes, and what it leaves.
use Rattle.std.specs.Prelude.{◌≡◌, ◌++◌, ◌∷◌, ℕ, suc, Bool, true, [], Option, Result, Ok, Err}
use Rattle.raft_log.specs.Seen.{seen}
use Rattle.raft_node.specs.Machine.{Machine}
use Rattle.raft_node.specs.Parts.{Keeper}
use Rattle.raft_node.specs.Starting.{IsFirst, IsStarted}
use Rattle.recorder.specs.NodeLines.{fields_of}
use Rattle.world_views.specs.declared.envelope.Envelope.{Envelope}
use Rattle.ether.specs.declared.pass.Pass.{Pass}
use Rattle.ether.specs.Passes.{EtherParts, looks_of, view_of}
use Rattle.ether.specs.Plays.{after_opening, after_take}
use Rattle.ether.specs.Rule.{look_at, look_if, mailbox_of}
use Rattle.node_cells.specs.declared.cell_fault.CellFault.{CellFault}
use Rattle.node_cells.specs.declared.cell_fault.CellFault.TheVariants.{Memory, Spent, Node as OfNode}
use Rattle.node_cells.specs.declared.phase.Phase.TheVariants.{Up}
use Rattle.node_cells.specs.declared.record.NodeRecord.{NodeRecord}
use Rattle.node_cells.specs.declared.record.Recording.{Recording}
use Rattle.node_cells.specs.Books.{IsRecordBy}
use Rattle.node_cells.specs.Cells.{CellParts, CellRoom, view_in}

module _ {Setup Hosted Store B L T E P U : Type 0} (k : Keeper Store B) where
  -- A cell as it is opened: its node is as a start from this store gave it, its view is the opening, and nothing is
  -- recorded yet.
  pub record IsFresh (ether : EtherParts Setup) (pass : Pass B L T) (store : Store) (upstream : U) (recording : Recording) (c : CellParts Setup Hosted Store B L T E P U) : Type 0 where
    pub ticket : ℕ
    pub started : IsFirst k (suc pass.node) ether.size ether.setup store c.node
    pub view : view_in c ≡ after_opening (view_of pass) ticket (k.condition c.node.store).honest (seen c.node.state [])
    pub node : c.pass.node ≡ pass.node
    pub ether_is : c.ether ≡ ether
    pub upstream_is : c.upstream ≡ upstream
    pub recording_is : c.recording ≡ recording
    pub turns : c.turns ≡ []
    pub is_up : c.phase ≡ Up

  -- by what an opening answers: a cell, or why the node did not start
  abbrev pub HasOpened : EtherParts Setup → Pass B L T → Store → U → Recording → Result (CellRoom Setup Hosted Store B L T E P U) CellFault → Type 0
  HasOpened ether pass store upstream recording (Ok c) = IsFresh ether pass store upstream recording c.parts
  HasOpened ether pass store upstream recording (Err Memory) = ⊥
  HasOpened ether pass store upstream recording (Err Spent) = ⊥
  HasOpened ether pass store upstream recording (Err (OfNode fault)) = IsStarted {Hosted = Hosted} k (suc pass.node) ether.size ether.setup store (Err fault)

module _ {Setup Hosted Store B L T E P U : Type 0} where
  -- the same cell, except for its view and its pass
  pub record IsSameBeside (c d : CellParts Setup Hosted Store B L T E P U) : Type 0 where
    pub ether : d.ether ≡ c.ether
    pub node_is : d.node ≡ c.node
    pub place : d.pass.node ≡ c.pass.node
    pub recording : d.recording ≡ c.recording
    pub turns : d.turns ≡ c.turns
    pub sent : d.sent ≡ c.sent
    pub upstream : d.upstream ≡ c.upstream
    pub phase : d.phase ≡ c.phase
    pub refused : d.refused ≡ c.refused
    pub shown : d.shown ≡ c.shown

  -- one look into a mailbox: its message was heard
  pub record HasTakenIn (c : CellParts Setup Hosted Store B L T E P U) (from : ℕ) (came : Option (Envelope B)) (d : CellParts Setup Hosted Store B L T E P U) : Type 0 where
    pub view : view_in d ≡ after_take (view_in c) came
    pub looks : looks_of d.pass ≡ looks_of c.pass ++ look_at (mailbox_of c.ether.size from c.pass.node) came ∷ []
    pub same : IsSameBeside c d

  -- one look into its own mailbox to the node at this place, kept if it was empty
  pub record HasSeenTo (c : CellParts Setup Hosted Store B L T E P U) (to : ℕ) (taken : Bool) (d : CellParts Setup Hosted Store B L T E P U) : Type 0 where
    pub view : view_in d ≡ view_in c
    pub looks : looks_of d.pass ≡ looks_of c.pass ++ look_if taken (mailbox_of c.ether.size c.pass.node to)
    pub same : IsSameBeside c d

  -- the cell is unchanged
  pub record IsSameCell (c d : CellParts Setup Hosted Store B L T E P U) : Type 0 where
    pub view : view_in d ≡ view_in c
    pub looks : looks_of d.pass ≡ looks_of c.pass
    pub same : IsSameBeside c d

module _ (M : Machine) {Setup Hosted Store U : Type 0} where
  -- What a cell leaves: if it records, the turns of its view, each with what came out of it, and the fields of the
  -- state that it shows.
  pub record IsClosed (c : CellParts Setup Hosted Store M.Body M.Line M.Target M.Effect M.Played U) (r : NodeRecord M.Body M.Line M.Target M.Effect M.Played) : Type 0 where
    pub node : r.node ≡ suc c.pass.node
    pub turns : r.turns.items ≡ c.turns
    pub recorded : IsRecordBy M c.recording (view_in c) r.turns.items
    pub state : (view_in c).honest ≡ true → r.state ≡ fields_of (view_in c).state
