-- What the driver gets from a message of another thread.
use Rattle.std.specs.Prelude.{◌≡◌, Bool, true, false, is_some}
use Rattle.driver.specs.declared.driver.Driver.{Driver}
use Rattle.driver.specs.declared.order.Now.{Now}
use Rattle.driver.specs.Reports.{Hears}
use Rattle.driver.specs.Writing.{Hands}
use Rattle.bouncer_run.specs.declared.inlet.LoopMessage.{LoopMessage}
use Rattle.bouncer_run.specs.declared.inlet.LoopMessage.TheVariants.{Report, Hand, End}

-- the bouncer is to end
abbrev pub is_end : LoopMessage → Bool
is_end (Report report) = false
is_end (Hand node line) = false
is_end End = true

-- a report is heard, a line that a node handed out waits to go to the server, and the end does
-- nothing
abbrev pub IsHeard : Now → LoopMessage → Driver → Driver → Type 0
IsHeard now (Report r) old new = Hears now.ms now.at r.node r.status r.effects.items r.progress (is_some r.fault) old new
IsHeard now (Hand node line) old new = Hands node line old new
IsHeard now End old new = new ≡ old
