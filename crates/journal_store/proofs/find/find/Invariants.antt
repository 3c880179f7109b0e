use Rattle.std.proofs.Common.{◌-◌, length}
use Rattle.stable_store.specs.Stores.{nothing_saved}
use Rattle.journal_store.specs.Journals.{Reached}
use Rattle.journal_store.specs.Payloads.{payloads}
use Rattle.journal_store.proofs.find.find.Given as goal

abbrev pub invariant-loop-place : goal.invariant-loop-place
invariant-loop-place g l = Reached (payloads g.B.Wire.taken) nothing_saved l.file l.saved l.place

abbrev pub decreases-loop-place : goal.decreases-loop-place
decreases-loop-place g l = length l.file - l.place
