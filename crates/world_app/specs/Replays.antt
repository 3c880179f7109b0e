-- The result of running a record's events again.
use Rattle.std.specs.Prelude.{◌≡◌, ◌≢◌, Bool, ℕ, List, ◌++◌, codes, decimal, ⊤}
use Rattle.irc_line.specs.Lines.{Parts}
use Rattle.buffer_commands.specs.Settings.{Settings}
use Rattle.bouncer_tower.specs.Bodies.{TowerBody}
use Rattle.bouncer_tower.specs.Spellings.{FitsBody, spelled_body}
use Rattle.setup_spelling.specs.Spelling.{FitsSetup, spelled_setup}
use Rattle.recorder.specs.Dates.{action_brings_name, body_brings_name, claims_brings_name, command_brings_name, fence_brings_name}
use Rattle.world_events.specs.declared.event.Event.{Event}
use Rattle.records.specs.RecordReading.{IsFaultOf, IsRecordOf}
use Rattle.records.specs.Verdicts.{verdict}
use Rattle.records.specs.declared.replay_fault.ReplayFault.{ReplayFault}
use Rattle.records.specs.declared.replay_fault.ReplayFault.TheVariants.{TooLong, Memory}
use Rattle.records.specs.declared.verdict.Verdict.{Verdict}
use Rattle.records.specs.declared.verdict.Verdict.TheVariants.{Same, Differs}
use Rattle.whole_input.specs.declared.read_fault.ReadFault.{ReadFault}
use Rattle.whole_input.specs.declared.read_fault.ReadFault.TheVariants as reading
use Rattle.world_app.specs.declared.record_fault.RecordFault.{RecordFault}
use Rattle.world_app.specs.declared.record_fault.RecordFault.TheVariants.{Read, Replay, Write}
use Rattle.world_app.specs.Worlds.{bouncer_text}

-- the body is of a client that attaches with a name
abbrev pub brings_name : TowerBody → Bool
brings_name body = body_brings_name (claims_brings_name (fence_brings_name command_brings_name)) action_brings_name body

-- The verdict is that of the recorded lines against those of a run of the recorded events, over the recorded setup.
pub record IsReplayOf (input : List ℕ) (v : Verdict) : Type 0 where
  pub size : ℕ
  pub setup : Settings
  pub events : List (Event TowerBody Parts (List ℕ))
  pub outputs : List ℕ
  pub of_input : IsRecordOf spelled_setup FitsSetup spelled_body FitsBody brings_name input size setup events outputs
  pub verdict_is : v ≡ verdict outputs (bouncer_text setup size events)

-- what is wrong with an input that is no record file
abbrev pub IsReplayFault : List ℕ → ReplayFault → Type 0
IsReplayFault input e = IsFaultOf spelled_setup FitsSetup spelled_body FitsBody brings_name input e

-- a verdict in words
abbrev pub verdict_words : Verdict → List ℕ
verdict_words Same = codes "same\n"
verdict_words (Differs line) = codes "differs at " ++ decimal line ++ codes "\n"

-- what is wrong with an input, as the program reports it; for a reader or a writer that fails nothing is said
abbrev pub IsRecordFault : List ℕ → RecordFault → Type 0
IsRecordFault input Read = ⊤
IsRecordFault input (Replay e) = IsReplayFault input e
IsRecordFault input Write = ⊤

-- the fault of an input that is not read whole
abbrev pub record_fault : ReadFault → RecordFault
record_fault reading.InputTooLong = Replay TooLong
record_fault reading.Read = Read
record_fault reading.Memory = Replay Memory
