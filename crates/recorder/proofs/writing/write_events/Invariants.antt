use Rattle.std.proofs.Common.{take}
use Rattle.recorder.specs.EventLists.{AreOf}
use Rattle.recorder.proofs.writing.write_events.Given as goal

abbrev pub invariant-loop-event : goal.invariant-loop-event
invariant-loop-event g l = AreOf g.B.Wire.spelled g.B.Wire.fits l.out.items (take l.event-index l.events)
