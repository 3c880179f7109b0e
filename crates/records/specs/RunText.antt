-- The text of the record file of a run.
use Rattle.std.specs.Prelude.{◌≡◌, ℕ, List, [], ◌∷◌}
use Rattle.irc_line.specs.Lines.{Parts}
use Rattle.buffer_commands.specs.Settings.{Settings}
use Rattle.node_cells.specs.declared.record.NodeRecord.{NodeRecord}
use Rattle.records.specs.Merging.{IsMergeOf}
use Rattle.records.specs.RecordText.{events_of, file_text, outputs_text}
use Rattle.records.specs.declared.file_version.FileVersion.TheVariants.{Second}
use Rattle.records.specs.declared.record.Merged.{Merged}
use Rattle.records.specs.declared.record.Record.{Record}
use Rattle.setup_spelling.specs.Spelling.{FitsSetup, spelled_setup}
use Rattle.world_events.specs.declared.event.Event.{Event}
use Rattle.world_run.specs.declared.outcome.Outcome.{Outcome}
use Rattle.records.specs.Converting.{AreOfMembers, IsRecordOf}

module _ {B L T E P : Type 0} where
  -- each of these is the other's, in order
  abbrev pub AreRecordsOf : List (NodeRecord B L T E P) → List (Record (Event B L T) (Outcome E P)) → Type 0
  AreRecordsOf [] [] = Unit {0}
  AreRecordsOf [] (s ∷ ss) = ⊥
  AreRecordsOf (r ∷ rs) [] = ⊥
  AreRecordsOf (r ∷ rs) (s ∷ ss) = IsRecordOf r s × AreRecordsOf rs ss

  -- each message that came to these nodes was sent by a node
  abbrev pub AreAllOfMembers : List (NodeRecord B L T E P) → Type 0
  AreAllOfMembers [] = Unit {0}
  AreAllOfMembers (r ∷ rs) = AreOfMembers r.turns.items × AreAllOfMembers rs

  -- some record has a message that no node sent
  abbrev pub HasAStranger : List (NodeRecord B L T E P) → Type 0
  HasAStranger rs = ¬ AreAllOfMembers rs

-- Over bodies, their spelling and limits, the words of effects and the spelling of what is played
module _ {B E P : Type 0} (spelled : B → List ℕ) (fits : B → Type 0) (words : E → List ℕ) (played : P → List ℕ) where
  -- The text is the file of the merge of these records: what happened to each node, by rising ticket, and what came out of it.
  pub record IsRunText (size : ℕ) (setup : Settings) (nodes : List (NodeRecord B Parts (List ℕ) E P)) (text : List ℕ) : Type 0 where
    pub records : List (Record (Event B Parts (List ℕ)) (Outcome E P))
    pub same : AreRecordsOf nodes records
    pub run : Merged (Event B Parts (List ℕ)) (Outcome E P)
    pub merged : IsMergeOf records run
    pub is : text ≡ file_text spelled_setup FitsSetup spelled fits Second size setup (events_of run.turns.items) (outputs_text words played run)
