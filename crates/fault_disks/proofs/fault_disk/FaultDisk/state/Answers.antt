use Rattle.std.proofs.Common.{rules, ◌≡◌, [], ◌∷◌, ap, sym, ◌∙◌}
use Rattle.std.proofs.lemmas.Result.{IfOk-weaker}
use Rattle.journal_store.specs.Disks.{DiskState, now, settled_at}
use Rattle.fault_disks.specs.Calls.{moments_from, replayed}
use Rattle.fault_disks.specs.CallLaws.{now_replayed}
use Rattle.fault_disks.proofs.fault_disk.FaultDisk.state.Goals as goal

pub returns-clause-ok : goal.returns-clause-ok
returns-clause-ok c =
    let first : c.settled-first.result ≡ settled_at c.self.inside.first.items = search rules in
    let calls : c.deref-2.result.now ≡ c.self.inside.calls.items = search rules in
    rw (← c.self.view_is)
    (IfOk-weaker c.replayed.result (λ s. s ≡ replayed c.settled-first.result c.deref-2.result.now) (λ s. s ≡ now (moments_from (settled_at c.self.inside.first.items ∷ []) c.self.inside.calls.items))
    (λ s is. is ∙ (ap (λ (d : DiskState). replayed d c.deref-2.result.now) first ∙ (ap (replayed (settled_at c.self.inside.first.items)) calls ∙ sym (now_replayed (settled_at c.self.inside.first.items ∷ []) c.self.inside.calls.items)))) c.replayed.ensures.ok)
