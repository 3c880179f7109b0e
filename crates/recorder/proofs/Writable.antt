-- Events within their limits may be written.
use Rattle.std.proofs.Common.{ℕ, List}
use Rattle.irc_line.specs.Lines.{Parts}
use Rattle.world_events.specs.declared.event.Input.{Input}
use Rattle.world_events.specs.declared.event.Input.TheVariants as input
use Rattle.world_events.specs.declared.event.Event.{Event}
use Rattle.world_events.specs.declared.event.Event.TheVariants.{Does, Restart, StopIn}
use Rattle.recorder.specs.EventLists.{AreWritable, FitEvents}
use Rattle.recorder.specs.InputReadings.{FitsEvent, FitsInput, IsWritable, IsWritableInput}

-- Over bodies, with their spelling and limits
module _ {B : Type 0} (spelled : B → List ℕ) (fits : B → Type 0) where
  input_is : (x : Input B Parts (List ℕ)) → FitsInput spelled fits x → IsWritableInput spelled fits x
  input_is (input.Timeout n) f = f
  input_is (input.Beat n) f = f
  input_is (input.Deliver n k) f = f
  input_is (input.Ask n b) f = (f.0, f.1.0)
  input_is (input.Opened n) f = f
  input_is (input.Closed n) f = f
  input_is (input.Heard n at l) f = f
  input_is (input.Claim n) f = f
  input_is (input.Apply n) f = f
  input_is (input.Look n place target) f = f

  event_is : (e : Event B Parts (List ℕ)) → FitsEvent spelled fits e → IsWritable spelled fits e
  event_is (Does x) f = input_is x f
  event_is (Restart n) f = f
  event_is (StopIn x after) f = input_is x f

  pub all_are : (events : List (Event B Parts (List ℕ))) → FitEvents spelled fits events → AreWritable spelled fits events
  all_are events f = λ k d lt. event_is _ (f k d lt)
