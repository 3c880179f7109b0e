-- How a text of events is read and written.
use Rattle.std.specs.Prelude.{◌≡◌, ℕ, List, ◌++◌, ⊤}
use Rattle.irc_line.specs.Lines.{Parts, spelling}
use Rattle.wire_bytes.specs.Contents.{FitsLine}
use Rattle.world_events.specs.declared.event.Event.{Event}
use Rattle.recorder.specs.declared.events_fault.EventsFault.{EventsFault}
use Rattle.recorder.specs.declared.events_fault.EventsFault.TheVariants.{BadLine, Memory}
use Rattle.recorder.specs.EventText.{AreEvents, IsBadLine, event_line, events_text}
use Rattle.recorder.specs.InputReadings.{FitsEvent}
use Rattle.recorder.specs.Readings.{FitsDigits}

-- Over bodies, with their spelling and limits
module _ {B : Type 0} (spelled : B → List ℕ) (fits : B → Type 0) where
  -- an event's line with its end, and what follows it
  abbrev pub line_and : Event B Parts (List ℕ) × List ℕ → List ℕ
  line_and p = event_line spelled spelling p.0 ++ p.1

  -- the event is within its limits, whatever follows it
  abbrev pub FitsFirst : Event B Parts (List ℕ) × List ℕ → Type 0
  FitsFirst p = FitsEvent spelled fits p.0

  -- the text of events, a line each
  abbrev pub text_of_events : List (Event B Parts (List ℕ)) → List ℕ
  text_of_events events = events_text spelled spelling events

  -- each event is within its limits
  abbrev pub FitEvents : List (Event B Parts (List ℕ)) → Type 0
  FitEvents events = AreEvents spelled spelling (FitsDigits fits spelled) FitsLine events

  -- each event can be written
  abbrev pub AreWritable : List (Event B Parts (List ℕ)) → Type 0
  AreWritable events = AreEvents spelled spelling fits FitsLine events

  -- the events of this text, each within its limits
  abbrev pub AreOf : List ℕ → List (Event B Parts (List ℕ)) → Type 0
  AreOf text events = FitEvents events × (text_of_events events ≡ text)

  -- this line of a text, counted from 1, is the first that is no event
  abbrev pub IsFirstBad : List ℕ → ℕ → Type 0
  IsFirstBad text number = IsBadLine spelled spelling (FitsDigits fits spelled) FitsLine text number

  -- the fault of a text: its first bad line
  abbrev pub IsFaultOf : List ℕ → EventsFault → Type 0
  IsFaultOf text (BadLine number) = IsFirstBad text number
  IsFaultOf text Memory = ⊤
