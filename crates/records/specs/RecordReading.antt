-- What is read from a record file, and what is wrong with a text that is none.
use Rattle.std.specs.Prelude.{◌≡◌, ◌⊎◌, ℕ, ◌+◌, ◌<◌, ◌≤◌, Bool, true, false, not, List, ◌∷◌, ◌++◌, length, codes, Option, Some, None, ⊤}
use Rattle.irc_line.specs.Lines.{Parts}
use Rattle.raft_log.specs.Peers.{IsGroupSize}
use Rattle.recorder.specs.Dates.{event_brings_name}
use Rattle.recorder.specs.EventLists.{FitEvents, text_of_events}
use Rattle.recorder.specs.InputReadings.{FitsEvent, text_of_event}
use Rattle.recorder.specs.Readings.{FitsDigits}
use Rattle.whole_input.specs.Reads.{most_bytes}
use Rattle.world_events.specs.declared.event.Event.{Event}
use Rattle.records.specs.declared.file_version.FileVersion.{FileVersion}
use Rattle.records.specs.declared.file_version.FileVersion.TheVariants.{First, Second}
use Rattle.records.specs.declared.replay_fault.ReplayFault.{ReplayFault}
use Rattle.records.specs.declared.replay_fault.ReplayFault.TheVariants.{Version, BadLine, TooLong, Memory}
use Rattle.records.specs.RecordText.{SetupFits, SizeFits, file_text, head_text, outputs_line, setup_text, size_text, version_mark}

-- a body that a file of this version may hold: in one of the first version it brings no name
abbrev pub FitsIn : {B : Type 0} → (B → Type 0) → (B → Bool) → FileVersion → B → Type 0
FitsIn fits brings First body = fits body × (brings body ≡ false)
FitsIn fits brings Second body = fits body

-- an event that a file of this version may hold
abbrev pub may_hold : {B : Type 0} → (B → Bool) → FileVersion → Event B Parts (List ℕ) → Bool
may_hold brings First e = not (event_brings_name brings e)
may_hold brings Second e = true

-- Over bodies, their spelling and its limits
module _ {B : Type 0} (spelled : B → List ℕ) (fits : B → Type 0) where
  -- the line of an event, or `outputs`, without its end
  abbrev pub item_word : Option (Event B Parts (List ℕ)) → List ℕ
  item_word (Some e) = text_of_event spelled fits e
  item_word None = codes "outputs"

  -- an event is within its limits
  abbrev pub ItemFits : Option (Event B Parts (List ℕ)) → Type 0
  ItemFits (Some e) = FitsEvent spelled fits e
  ItemFits None = ⊤

  -- the line with its end, and what follows
  abbrev pub item_text : Option (Event B Parts (List ℕ)) × List ℕ → List ℕ
  item_text p = item_word p.0 ++ 10 ∷ p.1

  -- the line's event is within its limits, whatever follows
  abbrev pub FitsFirst : Option (Event B Parts (List ℕ)) × List ℕ → Type 0
  FitsFirst p = ItemFits p.0

  -- events, the line `outputs`, and what follows it
  pub record AreItems (text : List ℕ) (events : List (Event B Parts (List ℕ))) (outputs : List ℕ) : Type 0 where
    pub fit : FitEvents spelled fits events
    pub whole : text_of_events spelled fits events ++ (outputs_line ++ outputs) ≡ text

  -- This line, the first of this text being line 3, is neither an event nor `outputs`: this many events come before it,
  -- and what is left, which may be nothing, begins with neither.
  pub record IsBadItem (text : List ℕ) (number : ℕ) : Type 0 where
    pub before : List (Event B Parts (List ℕ))
    pub good : FitEvents spelled fits before
    pub counted : number ≡ 3 + length before
    pub rest : List ℕ
    pub whole : text_of_events spelled fits before ++ rest ≡ text
    pub bad : (p : Option (Event B Parts (List ℕ)) × List ℕ) → FitsFirst p → item_text p ≡ rest → ⊥

  -- the fault of a text of events
  abbrev pub IsItemFault : List ℕ → ReplayFault → Type 0
  IsItemFault text Version = ⊥
  IsItemFault text (BadLine number) = IsBadItem text number
  IsItemFault text TooLong = ⊥
  IsItemFault text Memory = ⊤

-- the first line begins as in a file of some version
abbrev pub IsVersioned : List ℕ → Type 0
IsVersioned input = (version : FileVersion) × ((rest : List ℕ) × (version_mark version ++ rest ≡ input))

-- Line 1 is bad: no group has its size.
pub record IsBadSize (input : List ℕ) (number : ℕ) : Type 0 where
  pub first : number ≡ 1
  pub version : FileVersion
  pub rest : List ℕ
  pub whole : version_mark version ++ rest ≡ input
  pub bad : (p : ℕ × List ℕ) → SizeFits p → size_text p ≡ rest → ⊥

-- Over setups and bodies, their spellings and their limits, and which bodies bring a name
module _ {S B : Type 0} (setup_spelled : S → List ℕ) (setup_fits : S → Type 0) (spelled : B → List ℕ) (fits : B → Type 0) (brings : B → Bool) where
  -- Line 2 is bad: it is no setup.
  pub record IsBadSetup (input : List ℕ) (number : ℕ) : Type 0 where
    pub second : number ≡ 2
    pub version : FileVersion
    pub size : ℕ
    pub allowed : IsGroupSize size
    pub rest : List ℕ
    pub whole : version_mark version ++ size_text (size, rest) ≡ input
    pub bad : (p : S × List ℕ) → SetupFits setup_spelled setup_fits p → setup_text setup_spelled setup_fits p ≡ rest → ⊥

  -- A later line is bad: it is neither an event that a file of this version may hold nor `outputs`, or the file ends there.
  pub record IsBadBehind (input : List ℕ) (number : ℕ) : Type 0 where
    pub version : FileVersion
    pub size : ℕ
    pub allowed : IsGroupSize size
    pub setup : S
    pub good_setup : FitsDigits setup_fits setup_spelled setup
    pub rest : List ℕ
    pub whole : head_text setup_spelled setup_fits spelled fits version size setup rest ≡ input
    pub bad : IsBadItem spelled (FitsIn fits brings version) rest number

  -- the line of this number is the first bad one
  abbrev pub IsBadLine : List ℕ → ℕ → Type 0
  IsBadLine input number = IsBadSize input number ⊎ (IsBadSetup input number ⊎ IsBadBehind input number)

  -- the fault of a text that is no record file; for a long one nothing else is reported
  abbrev pub IsFaultOf : List ℕ → ReplayFault → Type 0
  IsFaultOf input Version = (length input ≤ most_bytes) × (IsVersioned input → ⊥)
  IsFaultOf input (BadLine number) = (length input ≤ most_bytes) × IsBadLine input number
  IsFaultOf input TooLong = most_bytes < length input
  IsFaultOf input Memory = ⊤

  -- The file has these parts, and each event is one that a file of its version may hold.
  pub record IsRecordOf (input : List ℕ) (size : ℕ) (setup : S) (events : List (Event B Parts (List ℕ))) (outputs : List ℕ) : Type 0 where
    pub version : FileVersion
    pub allowed : IsGroupSize size
    pub good_setup : FitsDigits setup_fits setup_spelled setup
    pub good_events : FitEvents spelled (FitsIn fits brings version) events
    pub short : length input ≤ most_bytes
    pub whole : file_text setup_spelled setup_fits spelled fits version size setup events outputs ≡ input
