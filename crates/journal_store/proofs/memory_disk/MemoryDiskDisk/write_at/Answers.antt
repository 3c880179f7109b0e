use Rattle.std.proofs.Common.{◌≡◌, [], ◌∷◌, ◌∙◌, sym, ap, subst, length, List, ℕ}
use Rattle.journal_store.specs.Disks.{DiskState, Within, settled_at, writing, written_over}
use Rattle.journal_store.proofs.Overs.{over_within}
use Rattle.journal_store.proofs.memory_disk.MemoryDiskDisk.write_at.Goals as goal

pub returns-clause-runs : goal.returns-clause-runs
returns-clause-runs c = λ h.
    let old = c.args.self.now.bytes.items in
    let is : c.replace.new.bytes.items ≡ written_over old c.args.place c.args.bytes.now = c.in_ok-replace.ensures.ok ∙ (c.in_ok-next.ensures ∙ ap (λ (l : List ℕ). written_over l c.args.place c.args.bytes.now) c.deref.ensures.value) in
    record {
      added = settled_at c.replace.new.bytes.items ∷ [];
      joined = ap (λ (l : List DiskState). settled_at c.replace.new.bytes.items ∷ l) c.in_ok-replace.ensures.past;
      each = (subst (λ (l : List ℕ). Within (settled_at l) (writing c.args.place (length c.args.bytes.now) (settled_at old))) (sym is) (over_within old c.args.place c.args.bytes.now (c.requires h)), tt);
    }
