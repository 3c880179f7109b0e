use Rattle.std.proofs.Common.{◌≡◌, ◌∙◌, IsTrue, Bool, List, sym, ap, subst}
use Rattle.std.proofs.lemmas.Result.{on_ok_weaker}
use Rattle.journal_store.specs.Disks.{DiskState, IsWritten, now, written_over}
use Rattle.journal_store.proofs.Overs.{over_same}
use Rattle.journal_store.proofs.mend.rewrite.Goals as goal

pub returns-clause-same : goal.returns-clause-same
returns-clause-same g c = λ h.
    let still = subst (λ (b : Bool). IsTrue b) (sym c.read.ensures.honest) h in
    let mid = g.D.Disk.states c.read.new.self in
    let new = g.D.Disk.states c.write_at.new.self in
    let old = (now (g.D.Disk.states c.args.disk.now)).bytes in
    on_ok_weaker {P = IsWritten c.args.place c.deref.result.now mid new} {Q = (now new).bytes ≡ old} c.write_at.result
    (λ is. is.bytes_are
    ∙ (ap (λ (l : List DiskState). written_over (now l).bytes c.args.place c.deref.result.now) (c.in_ok-bytes.ensures.same h)
    ∙ (ap (written_over old c.args.place) (c.deref.ensures.value ∙ c.in_ok-bytes.ensures.bytes h) ∙ over_same old c.args.place c.args.size (c.requires h)))) (c.write_at.ensures.written still)
