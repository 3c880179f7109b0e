use Rattle.std.proofs.Common.{IsTrue, Bool, subst, sym}
use Rattle.stable_store.specs.declared.saved.Saved.{Saved}
use Rattle.journal_store.specs.Serving.{IsSettled}
use Rattle.journal_store.proofs.journal_store.JournalStore.make.Goals as goal

pub invariant_of-result : goal.invariant_of-result
invariant_of-result g c = λ h.
    subst (λ (s : Saved g.row.B.Denot). IsSettled g.B.Wire.taken (g.D.Disk.states c.begin.new.disk) s 8) (sym c.nothing.ensures)
    (c.in_ok-begin.ensures.settled (subst (λ (b : Bool). IsTrue b) c.in_ok-begin.ensures.honest h))
