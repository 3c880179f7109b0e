-- The result of an input of events, in a group of nodes of the bouncer with the plain setup.
use Rattle.std.specs.Prelude.{◌≡◌, ℕ, ◌<◌, List}
use Rattle.irc_line.specs.Lines.{Parts}
use Rattle.buffer_commands.specs.Settings.{Settings, plain}
use Rattle.bouncer_tower.specs.Bodies.{TowerBody, TowerEffect}
use Rattle.bouncer_tower.specs.Spellings.{FitsBody, spelled_body}
use Rattle.recorder.specs.declared.events_fault.EventsFault.{EventsFault}
use Rattle.recorder.specs.declared.events_fault.EventsFault.TheVariants as events
use Rattle.recorder.specs.EffectWords.{answer_words, claims_words, effect_words, fence_words}
use Rattle.recorder.specs.EventLists.{AreOf, IsFirstBad}
use Rattle.world_events.specs.declared.event.Event.{Event}
use Rattle.world_lines.specs.OutputText.{world_text}
use Rattle.headline.specs.Tower.{tower}
use Rattle.whole_input.specs.declared.read_fault.ReadFault.{ReadFault}
use Rattle.whole_input.specs.declared.read_fault.ReadFault.TheVariants as reading
use Rattle.world_app.specs.declared.run_fault.RunFault.{RunFault}
use Rattle.world_app.specs.declared.run_fault.RunFault.TheVariants.{Refused, InputTooLong, Read, BadEvent, Write, Memory}

-- a size that may be asked for: a number of at most nine digits
abbrev pub IsAskable : ℕ → Type 0
IsAskable n = n < 1000000000

-- the fault of an input that is not read whole
abbrev pub run_fault : ReadFault → RunFault
run_fault reading.InputTooLong = InputTooLong
run_fault reading.Read = Read
run_fault reading.Memory = Memory

-- the words of what leaves
abbrev pub tower_words : TowerEffect → List ℕ
tower_words = answer_words (claims_words (fence_words effect_words))

-- the text of what comes out of these events, and of the states of this many nodes of a bouncer with this setup
-- afterwards
abbrev pub bouncer_text : Settings → ℕ → List (Event TowerBody Parts (List ℕ)) → List ℕ
bouncer_text setup size events = world_text (tower setup) tower_words (λ line. line) size events

-- the same for the bouncer with the plain setup
abbrev pub plain_text : ℕ → List (Event TowerBody Parts (List ℕ)) → List ℕ
plain_text size events = bouncer_text plain size events

-- The text is that of the events of an input.
pub record IsRunOf (size : ℕ) (input text : List ℕ) : Type 0 where
  pub events : List (Event TowerBody Parts (List ℕ))
  pub of_input : AreOf spelled_body FitsBody input events
  pub text_is : text ≡ plain_text size events

-- the fault of a text that is none of events
abbrev pub events_fault : EventsFault → RunFault
events_fault (events.BadLine number) = BadEvent number
events_fault events.Memory = Memory

-- a bad line that is reported for an input is its first that is no event
abbrev pub IsBadOf : List ℕ → RunFault → Type 0
IsBadOf input (Refused size) = Unit {0}
IsBadOf input InputTooLong = Unit {0}
IsBadOf input Read = Unit {0}
IsBadOf input (BadEvent number) = IsFirstBad spelled_body FitsBody input number
IsBadOf input Write = Unit {0}
IsBadOf input Memory = Unit {0}

-- the faults that only running brings: a bad line, or memory that ran out
abbrev pub IsOfRunning : RunFault → Type 0
IsOfRunning (Refused size) = ⊥
IsOfRunning InputTooLong = ⊥
IsOfRunning Read = ⊥
IsOfRunning (BadEvent number) = Unit {0}
IsOfRunning Write = ⊥
IsOfRunning Memory = Unit {0}
