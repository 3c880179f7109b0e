use Rattle.journal_store.proofs.Calls.{settled_of, settled_stands}
use Rattle.journal_store.proofs.journal_store.JournalStore.disk.Goals as goal

pub returns-clause-sound : goal.returns-clause-sound
returns-clause-sound g c = rw (← c.self.view_is) (λ h whole. settled_stands g.B.Wire.taken _ _ _ (settled_of g.B.Wire.taken _ _ _ _ whole (c.self.invariant h)))
