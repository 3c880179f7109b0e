-- That a record file is read in one way, and what a file from before clients had names holds.
use Rattle.std.specs.Prelude.{◌≡◌, ℕ, Bool, false, List, ◌++◌, All}
use Rattle.irc_line.specs.Lines.{Parts}
use Rattle.world_events.specs.declared.event.Event.{Event}
use Rattle.recorder.specs.Dates.{event_brings_name}
use Rattle.records.specs.RecordReading.{IsFaultOf, IsRecordOf}
use Rattle.records.specs.RecordText.{version_mark}
use Rattle.records.specs.declared.file_version.FileVersion.TheVariants.{First}
use Rattle.records.specs.declared.replay_fault.ReplayFault.{ReplayFault}
use Rattle.records.specs.declared.replay_fault.ReplayFault.TheVariants.{Memory}

-- Over setups and bodies, their spellings and their limits, and which bodies bring a name
module _ {S B : Type 0} (setup_spelled : S → List ℕ) (setup_fits : S → Type 0) (spelled : B → List ℕ) (fits : B → Type 0) (brings : B → Bool) where
  -- the same size, setup, events and outputs
  pub record AreSame (size other_size : ℕ) (setup other_setup : S) (events other_events : List (Event B Parts (List ℕ))) (outputs other_outputs : List ℕ) : Type 0 where
    pub sizes : size ≡ other_size
    pub setups : setup ≡ other_setup
    pub lists : events ≡ other_events
    pub outs : outputs ≡ other_outputs

  -- a text is the file of at most one record
  abbrev pub IsReadOneWay : Type 0
  IsReadOneWay =
      (input : List ℕ) (size other_size : ℕ) (setup other_setup : S) (events other_events : List (Event B Parts (List ℕ))) (outputs other_outputs : List ℕ) →
      IsRecordOf setup_spelled setup_fits spelled fits brings input size setup events outputs →
      IsRecordOf setup_spelled setup_fits spelled fits brings input other_size other_setup other_events other_outputs →
      AreSame size other_size setup other_setup events other_events outputs other_outputs

  -- no event of a file of the first version brings a name
  abbrev pub FirstBringsNoName : Type 0
  FirstBringsNoName =
      (input : List ℕ) (size : ℕ) (setup : S) (events : List (Event B Parts (List ℕ))) (outputs rest : List ℕ) →
      IsRecordOf setup_spelled setup_fits spelled fits brings input size setup events outputs →
      version_mark First ++ rest ≡ input → All (λ e. event_brings_name brings e ≡ false) events

  -- for the file of a record the only fault reported is that memory ran out
  abbrev pub HasNoFault : Type 0
  HasNoFault =
      (input : List ℕ) (size : ℕ) (setup : S) (events : List (Event B Parts (List ℕ))) (outputs : List ℕ) (fault : ReplayFault) →
      IsRecordOf setup_spelled setup_fits spelled fits brings input size setup events outputs →
      IsFaultOf setup_spelled setup_fits spelled fits brings input fault → fault ≡ Memory
