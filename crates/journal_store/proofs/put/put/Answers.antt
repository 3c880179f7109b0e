use Rattle.std.proofs.Common.{◌≡◌, ◌∙◌, IsTrue, Bool, sym, ap, subst}
use Rattle.std.proofs.lemmas.Result.{on_ok_weaker}
use Rattle.journal_store.specs.Disks.{DiskState, IsSynced, now, written_over}
use Rattle.journal_store.proofs.Covering.{synced_bytes}
use Rattle.journal_store.proofs.Moments.{then_syncs, while_writing}
use Rattle.journal_store.proofs.put.put.Goals as goal

pub returns-clause-runs : goal.returns-clause-runs
returns-clause-runs g c = λ h.
    let still = subst (λ (b : Bool). IsTrue b) (sym c.write_at.ensures.honest) h in
    then_syncs _ _ _ _ (while_writing _ _ (now (g.D.Disk.states c.args.disk.now))) (c.write_at.ensures.runs h) (c.sync.ensures.runs still)

pub returns-clause-written : goal.returns-clause-written
returns-clause-written g c = λ h.
    let still = subst (λ (b : Bool). IsTrue b) (sym c.write_at.ensures.honest) h in
    let mid = g.D.Disk.states c.write_at.new.self in
    let new = g.D.Disk.states c.sync.new.self in
    on_ok_weaker {P = IsSynced mid new} {Q = (now new).bytes ≡ written_over (now (g.D.Disk.states c.args.disk.now)).bytes c.args.place c.args.bytes.now} c.sync.result
    (λ is. ap (λ (d : DiskState). d.bytes) is ∙ (synced_bytes (now mid) ∙ (c.in_ok-write_at.ensures.written h).bytes_are)) (c.sync.ensures.synced still)
