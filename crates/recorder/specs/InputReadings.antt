-- How the text after the word of a kind is read, and whole lines.
use Rattle.std.specs.Prelude.{◌≡◌, ℕ, List, ◌++◌, Option, Some, None}
use Rattle.irc_line.specs.Lines.{Parts, spelling}
use Rattle.wire_bytes.specs.Contents.{FitsLine}
use Rattle.world_events.specs.declared.event.Input.{Input}
use Rattle.world_events.specs.declared.event.Event.{Event}
use Rattle.world_events.specs.declared.event.Event.TheVariants.{Does}
use Rattle.recorder.specs.declared.kind.Kind.{Kind}
use Rattle.recorder.specs.EventText.{kind_of, fields, input_text, event_text, IsInput, IsEvent}
use Rattle.recorder.specs.Readings.{FitsDigits, ReadsAs}

-- Over bodies, with their spelling and limits
module _ {B : Type 0} (spelled : B → List ℕ) (fits : B → Type 0) where
  -- the limits of what is read
  abbrev pub FitsInput : Input B Parts (List ℕ) → Type 0
  FitsInput x = IsInput spelled spelling (FitsDigits fits spelled) FitsLine x

  -- the limits of an event that is read
  abbrev pub FitsEvent : Event B Parts (List ℕ) → Type 0
  FitsEvent e = IsEvent spelled spelling (FitsDigits fits spelled) FitsLine e

  -- the same, except that the spelling of a body need not be bytes: writing shows that it is
  abbrev pub IsWritableInput : Input B Parts (List ℕ) → Type 0
  IsWritableInput x = IsInput spelled spelling fits FitsLine x

  -- the limits of an event that is written
  abbrev pub IsWritable : Event B Parts (List ℕ) → Type 0
  IsWritable e = IsEvent spelled spelling fits FitsLine e

  -- the text of an input, and of an event
  abbrev pub text_of_input : Input B Parts (List ℕ) → List ℕ
  text_of_input x = input_text spelled spelling x

  -- the line of an event, without its end
  abbrev pub text_of_event : Event B Parts (List ℕ) → List ℕ
  text_of_event e = event_text spelled spelling e

  -- the input of this kind is within its limits and has these fields, or there is no such input
  abbrev pub ReadsFields : Kind → List ℕ → Option (Input B Parts (List ℕ)) → Type 0
  ReadsFields kind bytes (Some x) = FitsInput x × (kind_of spelled spelling x ≡ kind) × (fields spelled spelling x ≡ bytes)
  ReadsFields kind bytes None = (x : Input B Parts (List ℕ)) → FitsInput x → kind_of spelled spelling x ≡ kind → fields spelled spelling x ≡ bytes → ⊥

  -- the event is within its limits and has these words and this rest as its text, or there is no
  -- such event
  abbrev pub ReadsBehind : List ℕ → List ℕ → Option (Event B Parts (List ℕ)) → Type 0
  ReadsBehind words rest r = ReadsAs text_of_event FitsEvent (words ++ rest) r

  -- an event that is no restart and no stop is within its limits and has this text, or there is no
  -- such event
  abbrev pub ReadsDoes : List ℕ → Option (Event B Parts (List ℕ)) → Type 0
  ReadsDoes line (Some e) = FitsEvent e × (text_of_event e ≡ line)
  ReadsDoes line None = (x : Input B Parts (List ℕ)) → FitsInput x → text_of_event (Does x) ≡ line → ⊥
