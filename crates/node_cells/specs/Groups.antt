-- The records of all nodes of a group.
use Rattle.std.specs.Prelude.{◌≡◌, ◌<◌, ℕ, suc, true, List, [], ◌∷◌, ◌++◌, length, map}
use Rattle.raft_node.specs.Machine.{Machine}
use Rattle.recorder.specs.NodeLines.{fields_of}
use Rattle.world_run.specs.World.{Event}
use Rattle.world_views.specs.Laws.{RecordsReplay}
use Rattle.world_views.specs.Openings.{OpenedAfter}
use Rattle.world_views.specs.Own.{ViewOf}
use Rattle.world_views.specs.Rule.{AreHonest, IsRule}
use Rattle.world_views.specs.Views.{IsAt, View}
use Rattle.ether.specs.declared.pass.Pass.{Pass}
use Rattle.ether.specs.Passes.{EtherParts, IsPass, view_of}
use Rattle.node_cells.specs.declared.record.NodeRecord.{NodeRecord}
use Rattle.node_cells.specs.declared.record.Recording.{Recording}
use Rattle.node_cells.specs.Books.{IsRecordBy}
use Rattle.node_cells.specs.Cells.{CellParts, view_in}

module _ (M : Machine) where
  -- the record of a node that hosts this machine
  abbrev pub RecordOf : Type 0
  RecordOf = NodeRecord M.Body M.Line M.Target M.Effect M.Played

  module _ (recording : Recording) where
    -- The record of the node at a place, whose view this is: if turns are recorded the view's turns with what came out
    -- of each, else none; and the fields of its state.
    pub record IsLeftBy (i : ℕ) (v : ViewOf M) (r : RecordOf) : Type 0 where
      pub node : r.node ≡ suc i
      pub recorded : IsRecordBy M recording v r.turns.items
      pub state : v.honest ≡ true → r.state ≡ fields_of v.state

    -- a record for each view, in order
    pub record AreLeftBy (views : List (ViewOf M)) (records : List RecordOf) : Type 0 where
      pub many : length records ≡ length views
      pub each : (i : ℕ) (v : ViewOf M) (r : RecordOf) → IsAt views i v → IsAt records i r → IsLeftBy i v r

    -- The records of all nodes of a group, node 1's first, whose views these are. The views keep the rule, so that
    -- their turns, merged by rising ticket, replay as a run of the group, if the openings are as some list of events
    -- leaves the nodes; the records have these turns, if they are recorded.
    pub record AreRecordsOfGroup (size : ℕ) (views : List (ViewOf M)) (records : List RecordOf) : Type 0 where
      pub next : ℕ
      pub rule : IsRule M size next views
      pub left : AreLeftBy views records
      pub replays : AreHonest M views → (before : List (Event M)) → OpenedAfter M before views → RecordsReplay M before views

-- the ether of some cells, whether they record, and the views of those that were closed, the first node's first
pub record ClosingParts (Setup B L T : Type 0) : Type 0 where
  pub ether : EtherParts Setup
  pub recording : Recording
  pub views : List (View B L T)

module _ (M : Machine) {Setup : Type 0} where
  -- The passes are of the first nodes of the ether, in order, and the records are theirs
  pub record IsClosing (e : EtherParts Setup) (recording : Recording) (passes : List (Pass M.Body M.Line M.Target)) (records : List (RecordOf M)) : Type 0 where
    pub passes_are : (i : ℕ) (p : Pass M.Body M.Line M.Target) → IsAt passes i p → IsPass e p × (p.node ≡ i)
    pub left : AreLeftBy M recording (map view_of passes) records

module _ {Setup Hosted Store B L T E P U : Type 0} where
  -- a cell of the ether that records as they do, whose node is the next after those that were closed
  pub record IsNextCell (closing : ClosingParts Setup B L T) (c : CellParts Setup Hosted Store B L T E P U) : Type 0 where
    pub ether : c.ether ≡ closing.ether
    pub recording : c.recording ≡ closing.recording
    pub node : (view_in c).node ≡ length closing.views
    pub few : length closing.views < closing.ether.size

  -- the cell's view is the last, and all else is unchanged
  pub record HasClosed (old : ClosingParts Setup B L T) (c : CellParts Setup Hosted Store B L T E P U) (new : ClosingParts Setup B L T) : Type 0 where
    pub ether : new.ether ≡ old.ether
    pub recording : new.recording ≡ old.recording
    pub views : new.views ≡ old.views ++ view_in c ∷ []
