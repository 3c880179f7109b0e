-- Why a cell's node is down, and what its calls say about it.
use Rattle.std.specs.Prelude.{◌≡◌, Option, None, Some, Result, Ok, Err}
use Rattle.raft_node.specs.declared.node_fault.Cause.{Cause}
use Rattle.raft_node.specs.declared.node_fault.Cause.TheVariants.{Memory as NoMemory}
use Rattle.raft_node.specs.declared.node_fault.NodeFault.TheVariants.{Down, Refused as Declined}
use Rattle.raft_node.specs.Faults.{cause_after}
use Rattle.raft_node.specs.Parts.{IsBlamed, Keeper}
use Rattle.raft_node.specs.Starting.{MayFail}
use Rattle.node_cells.specs.declared.cell_fault.CellFault.{CellFault}
use Rattle.node_cells.specs.declared.cell_fault.CellFault.TheVariants.{Memory, Spent, Node as OfNode}
use Rattle.node_cells.specs.declared.phase.Phase.{Phase}
use Rattle.node_cells.specs.declared.phase.Phase.TheVariants.{Up, DownInTurn, DownInTurns, DownInRestart}
use Rattle.node_cells.specs.Cells.{CellParts}

-- why a cell is down whose node is down for this cause: that cause, or, if the node itself is up, because memory ran
-- out
abbrev pub own_cause : Option Cause → Cause
own_cause None = NoMemory
own_cause (Some cause) = cause

-- why it is down, if it is
abbrev pub told_down : {B L T : Type 0} → Phase B L T → Option Cause → Option Cause
told_down Up own = None
told_down (DownInTurn x copy done) own = Some (own_cause own)
told_down (DownInTurns inputs copies answers) own = Some (own_cause own)
told_down DownInRestart own = Some (own_cause own)

module _ {Setup Hosted Store B L T E P U : Type 0} where
  -- why the cell's node is down, if it is
  abbrev pub down_in : CellParts Setup Hosted Store B L T E P U → Option Cause
  down_in c = told_down c.phase c.node.down

  -- if a call answers that the node is down, it gives the cause
  abbrev pub TellsCause : {A : Type 0} → Result A CellFault → CellParts Setup Hosted Store B L T E P U → Type 0
  TellsCause (Ok x) d = Unit {0}
  TellsCause (Err Memory) d = Unit {0}
  TellsCause (Err Spent) d = Unit {0}
  TellsCause (Err (OfNode (Declined refusal))) d = Unit {0}
  TellsCause (Err (OfNode (Down cause))) d = cause ≡ own_cause d.node.down

  module _ (k : Keeper Store B) where
    -- So does a turn; and if the node itself went down in it, an honest store is the cause only if it failed, and
    -- memory only if it did not.
    abbrev pub HasCause : {A : Type 0} → CellParts Setup Hosted Store B L T E P U → Result A CellFault → CellParts Setup Hosted Store B L T E P U → Type 0
    HasCause c (Ok x) d = Unit {0}
    HasCause c (Err Memory) d = Unit {0}
    HasCause c (Err Spent) d = Unit {0}
    HasCause c (Err (OfNode (Declined refusal))) d = Unit {0}
    HasCause c (Err (OfNode (Down cause))) d =
        (cause ≡ own_cause d.node.down) × (c.phase ≡ Up → d.node.down ≡ Some cause → IsBlamed cause (k.condition c.node.store) (k.condition d.node.store))

    -- if a restart fails, the node is down by the fault in the answer, which a restart from this store may have
    abbrev pub MayNotRestart : CellParts Setup Hosted Store B L T E P U → Result (Unit {0}) CellFault → CellParts Setup Hosted Store B L T E P U → Type 0
    MayNotRestart c (Ok done) d = Unit {0}
    MayNotRestart c (Err Memory) d = Unit {0}
    MayNotRestart c (Err Spent) d = Unit {0}
    MayNotRestart c (Err (OfNode fault)) d = (d.node.down ≡ Some (cause_after fault)) × MayFail k c.node.store (k.condition d.node.store) fault
