-- A worker whose node was opened late.
use Rattle.raft_node.specs.Parts.{Keeper}
use Rattle.node_cells.specs.Cells.{CellRoom}
use Rattle.node_cells.specs.Unopened.{UnopenedParts}
use Rattle.node_threads.specs.declared.place.Place.{Place}
use Rattle.node_threads.specs.declared.place.Place.TheVariants.{Open, Late}
use Rattle.node_threads.specs.Places.{HasWorked, WasOpenedLate}

module _ {Hosted Store U O A L T P Setup B E : Type 0} (k : Keeper Store B) (gives : O → Store → Type 0) where
  -- a node that was opened late, and with which its worker went on as with every other
  pub worked_late : (u : UnopenedParts Setup B L T U) (opener : O) (c : CellRoom Setup Hosted Store B L T E P U) (p : Place Hosted Store U O A L T P Setup B E) → WasOpenedLate k gives u opener c.parts
      → HasWorked k gives (Open c) p → HasWorked k gives (Late u opener) p
  worked_late u opener c (Open d) was same = (c.parts, was, same)
  worked_late u opener c (Late v left) was same = absurd same
