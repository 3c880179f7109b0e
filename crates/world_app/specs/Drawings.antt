-- The picture of a record.
use Rattle.std.specs.Prelude.{◌≡◌, ℕ, List}
use Rattle.irc_line.specs.Lines.{Parts}
use Rattle.buffer_commands.specs.Settings.{Settings}
use Rattle.bouncer_tower.specs.Bodies.{TowerBody}
use Rattle.bouncer_tower.specs.Spellings.{FitsBody, spelled_body}
use Rattle.setup_spelling.specs.Spelling.{FitsSetup, spelled_setup}
use Rattle.world_events.specs.declared.event.Event.{Event}
use Rattle.headline.specs.Tower.{tower}
use Rattle.records.specs.RecordReading.{IsFaultOf, IsRecordOf}
use Rattle.records.specs.declared.replay_fault.ReplayFault.{ReplayFault}
use Rattle.world_app.specs.declared.diagram.Diagram.{Diagram}
use Rattle.world_app.specs.Replays.{brings_name}
use Rattle.world_app.specs.Picture.{picture}
use Rattle.world_app.specs.Diagrams.{IsDiagramOf}

-- The text is the picture of the diagram of the recorded events, over the recorded setup.
pub record IsDrawingOf (input text : List ℕ) : Type 0 where
  pub size : ℕ
  pub setup : Settings
  pub events : List (Event TowerBody Parts (List ℕ))
  pub outputs : List ℕ
  pub of_input : IsRecordOf spelled_setup FitsSetup spelled_body FitsBody brings_name input size setup events outputs
  pub diagram : Diagram
  pub diagram_is : IsDiagramOf (tower setup) size events diagram
  pub text_is : text ≡ picture diagram

-- what is wrong with an input that is no record file
abbrev pub IsDrawingFault : List ℕ → ReplayFault → Type 0
IsDrawingFault input e = IsFaultOf spelled_setup FitsSetup spelled_body FitsBody brings_name input e
