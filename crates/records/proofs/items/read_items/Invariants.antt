use Rattle.std.proofs.Common.{length}
use Rattle.recorder.proofs.EventsSoFar.{IsLeft}
use Rattle.records.specs.RecordReading.{FitsIn}
use Rattle.records.proofs.items.read_items.Given as goal

abbrev pub decreases-loop-rest : goal.decreases-loop-rest
decreases-loop-rest g l = length l.rest

abbrev pub invariant-loop-rest : goal.invariant-loop-rest
invariant-loop-rest g l = IsLeft g.B.Wire.spelled (FitsIn g.B.Wire.fits g.B.Dated.brings_name l.fn.version) l.fn.text l.events.items l.rest
