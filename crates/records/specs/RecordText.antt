-- A run as the text of a record file.
use Rattle.std.specs.Prelude.{ℕ, List, [], ◌∷◌, ◌++◌, All, codes, decimal, flat_map, map}
use Rattle.irc_line.specs.Lines.{Parts}
use Rattle.raft_log.specs.Peers.{IsGroupSize}
use Rattle.recorder.specs.EventLists.{text_of_events}
use Rattle.recorder.specs.InputReadings.{IsWritable}
use Rattle.recorder.specs.NodeLines.{fields_line}
use Rattle.recorder.specs.Readings.{FitsDigits, digits_of}
use Rattle.recorder.specs.declared.node_line.NodeFields.{NodeFields}
use Rattle.world_events.specs.declared.event.Event.{Event}
use Rattle.world_lines.specs.OutcomeText.{outcomes_lines}
use Rattle.world_run.specs.declared.outcome.Outcome.{Outcome}
use Rattle.records.specs.declared.file_version.FileVersion.{FileVersion}
use Rattle.records.specs.declared.file_version.FileVersion.TheVariants.{First, Second}
use Rattle.records.specs.declared.record.Merged.{Merged}
use Rattle.records.specs.declared.record.Turn.{Turn}

-- what the first line of a file of this version begins with
abbrev pub version_mark : FileVersion → List ℕ
version_mark First = codes "RBREC01 "
version_mark Second = codes "RBREC02 "

-- the size of the group with the end of its line, and what follows
abbrev pub size_text : ℕ × List ℕ → List ℕ
size_text p = decimal p.0 ++ 10 ∷ p.1

-- a group may have the size: 3, 5 or 7
abbrev pub SizeFits : ℕ × List ℕ → Type 0
SizeFits p = IsGroupSize p.0

-- the line before what came out
abbrev pub outputs_line : List ℕ
outputs_line = codes "outputs" ++ 10 ∷ []

-- Over setups, their spelling and its limits
module _ {S : Type 0} (spelled : S → List ℕ) (fits : S → Type 0) where
  -- the setup's line with its end, and what follows
  abbrev pub setup_text : S × List ℕ → List ℕ
  setup_text p = digits_of spelled p.0 ++ 10 ∷ p.1

  -- the setup is within its limits and spelled by bytes, whatever follows
  abbrev pub SetupFits : S × List ℕ → Type 0
  SetupFits p = FitsDigits fits spelled p.0

-- Over setups and bodies, their spellings and their limits
module _ {S B : Type 0} (setup_spelled : S → List ℕ) (setup_fits : S → Type 0) (spelled : B → List ℕ) (fits : B → Type 0) where
  -- version, size and setup, and what follows
  abbrev pub head_text : FileVersion → ℕ → S → List ℕ → List ℕ
  head_text version size setup rest = version_mark version ++ size_text (size, setup_text setup_spelled setup_fits (setup, rest))

  -- version, size, setup and events, and what follows the line `outputs`
  abbrev pub file_text : FileVersion → ℕ → S → List (Event B Parts (List ℕ)) → List ℕ → List ℕ
  file_text version size setup events outputs = head_text version size setup (text_of_events spelled fits events ++ (outputs_line ++ outputs))

-- the line of each node, with its end
abbrev pub node_text : ℕ × NodeFields → List ℕ
node_text n = fields_line n.0 n.1

-- the lines of nodes, one after the other
abbrev pub nodes_text : List (ℕ × NodeFields) → List ℕ
nodes_text nodes = flat_map node_text nodes

module _ {V O : Type 0} where
  -- the events of turns, and what came out of them
  abbrev pub events_of : List (Turn V O) → List V
  events_of turns = map (λ t. t.event) turns

  -- what came out of each turn
  abbrev pub outcomes_of : List (Turn V O) → List O
  outcomes_of turns = map (λ t. t.outcome) turns

-- Over bodies, their spelling and its limits
module _ {B O : Type 0} (spelled : B → List ℕ) (fits : B → Type 0) where
  -- the event of each turn may be written
  abbrev pub AreWritableTurns : List (Turn (Event B Parts (List ℕ)) O) → Type 0
  AreWritableTurns turns = All (λ t. IsWritable spelled fits t.event) turns

-- Over bodies, the words of effects and the spelling of what is played
module _ {B E P : Type 0} (words : E → List ℕ) (played : P → List ℕ) where
  -- what came out of each turn, numbered from 1, and then the states of the nodes
  abbrev pub outputs_text : Merged (Event B Parts (List ℕ)) (Outcome E P) → List ℕ
  outputs_text run = outcomes_lines words played 1 (events_of run.turns.items) (outcomes_of run.turns.items) ++ nodes_text run.nodes.items
