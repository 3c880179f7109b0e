use Rattle.std.proofs.Common.{rules, ◌≡◌, IsTrue, Bool, subst}
use Rattle.journal_store.proofs.journal_store.JournalStore.adopt.Goals as goal

pub invariant_of-result : goal.invariant_of-result
invariant_of-result g c = λ h.
    let before = subst (λ (b : Bool). IsTrue b) c.in_ok-saved.ensures.honest h in
    c.in_ok-saved.ensures.settled before (c.in_ok-check_unfailed.ensures.settled before)

pub returns-clause-found : goal.returns-clause-found
returns-clause-found g c = λ h. record { file = _; image = g.met.D.Disk.reads_as c.args.disk h; stands = c.in_ok-saved.ensures.found h }
