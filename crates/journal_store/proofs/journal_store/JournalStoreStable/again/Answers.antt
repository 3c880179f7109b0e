use Rattle.std.proofs.Common.{IsTrue, Bool, subst, sym}
use Rattle.stable_store.specs.declared.saved.Saved.{Saved}
use Rattle.journal_store.specs.declared.known.Known.{Known}
use Rattle.journal_store.specs.Serving.{IsSound, MayStand, doubt_of, is_broken}
use Rattle.journal_store.proofs.Mending.{error_sound, error_stands, mending_moments, read_stands}
use Rattle.journal_store.proofs.journal_store.JournalStoreStable.again.Goals as goal

pub mend-requires : goal.mend-requires
mend-requires g c = λ h. (c.self.inside.saved, c.self.invariant h)

pub invariant_of-self : goal.invariant_of-self
invariant_of-self g c = λ h.
    let before = subst (λ (b : Bool). IsTrue b) c.in_err-saved.ensures.honest h in
    let own = g.met.D.Disk.reads_as c.self.inside.disk before in
    let own_new = g.met.D.Disk.reads_as c.mend.new.disk h in
    subst (λ (k : Known). IsSound g.B.Wire.taken (g.D.Disk.states c.mend.new.disk) c.self.inside.saved c.self.inside.end k) (sym c.after_error-self-inside.ensures)
    (error_sound g.B.Wire.taken _ _ _ own _ c.self.inside.saved own_new c.self.inside.known (c.self.invariant before) (c.in_err-saved.ensures.runs before))

pub returns-in_err-saved-clause-stands : goal.returns-in_err-saved-clause-stands
returns-in_err-saved-clause-stands g c = rw (← c.self.view_is) (λ h.
    let still = subst (λ (b : Bool). IsTrue b) (sym c.in_err-saved.ensures.honest) h in
    let own = g.met.D.Disk.reads_as c.self.inside.disk h in
    let own_new = g.met.D.Disk.reads_as c.mend.new.disk still in
    rw c.after_error-self-inside.ensures (error_stands g.B.Wire.taken _ _ _ own _ c.self.inside.saved own_new c.self.inside.known (c.self.invariant h) (c.in_err-saved.ensures.runs h)))

pub returns-in_err-saved-clause-any_moment : goal.returns-in_err-saved-clause-any_moment
returns-in_err-saved-clause-any_moment g c = rw (← c.self.view_is) (λ h.
    let still = subst (λ (b : Bool). IsTrue b) (sym c.in_err-saved.ensures.honest) h in
    let own = g.met.D.Disk.reads_as c.self.inside.disk h in
    let own_new = g.met.D.Disk.reads_as c.mend.new.disk still in
    mending_moments g.B.Wire.taken _ _ _ own _ c.self.inside.saved own_new c.self.inside.known (c.self.invariant h) (c.in_err-saved.ensures.runs h))

pub invariant_of-self-2 : goal.invariant_of-self-2
invariant_of-self-2 g c = λ h. c.in_ok-saved.ensures.settled (subst (λ (b : Bool). IsTrue b) c.in_ok-saved.ensures.honest h)

pub returns-clause-any_moment : goal.returns-clause-any_moment
returns-clause-any_moment g c = rw (← c.self.view_is) (λ h.
    let still = subst (λ (b : Bool). IsTrue b) (sym c.in_ok-saved.ensures.honest) h in
    let own = g.met.D.Disk.reads_as c.self.inside.disk h in
    let own_new = g.met.D.Disk.reads_as c.mend.new.disk still in
    mending_moments g.B.Wire.taken _ _ _ own _ c.self.inside.saved own_new c.self.inside.known (c.self.invariant h) (c.in_ok-saved.ensures.runs h))

pub returns-clause-ok : goal.returns-clause-ok
returns-clause-ok g c = rw (← c.self.view_is) (λ h.
    let own = g.met.D.Disk.reads_as c.self.inside.disk h in
    read_stands g.B.Wire.taken _ _ _ own c.self.inside.known (c.self.invariant h) _ (c.in_ok-saved.ensures.found h))

pub returns-clause-stands : goal.returns-clause-stands
returns-clause-stands g c = rw (← c.self.view_is) (λ h v is.
    let own = g.met.D.Disk.reads_as c.self.inside.disk h in
    subst (λ (s : Saved g.row.B.Denot). MayStand g.B.Wire.taken (g.D.Disk.states c.self.inside.disk) c.self.inside.saved (is_broken c.self.inside.known) (doubt_of c.self.inside.known c.self.inside.end) s) (sym is)
    (read_stands g.B.Wire.taken _ _ _ own c.self.inside.known (c.self.invariant h) _ (c.in_ok-saved.ensures.found h)))
