use Rattle.std.proofs.Common.{◌≡◌, Ok, Err, subst, sym, ◌∙◌, ⊎_elim}
use Rattle.stable_store.specs.declared.store_fault.StoreFault.{StoreFault}
use Rattle.stable_store.specs.Stores.{nothing_saved}
use Rattle.journal_store.specs.Journals.{found}
use Rattle.journal_store.specs.Payloads.{payloads}
use Rattle.journal_folder.proofs.FoundBytes.{found_is, refused_is}
use Rattle.journal_folder.proofs.journal_bytes.saved_in.Goals as goal

pub returns-in-Ok-read-clause-found : goal.returns-in-Ok-read-clause-found
returns-in-Ok-read-clause-found g c =
    let taken = g.B.Wire.taken in
    let found_there = found_is taken c.args.bytes.items _ c.new-disk.ensures.value _ (c.in-Ok.ensures.found c.new-disk.ensures.honest) in
    subst (λ s. found (payloads taken) nothing_saved c.args.bytes.items ≡ Ok s) (sym (c.in-Ok-read.ensures.ok c.new-disk.ensures.honest)) found_there

pub returns-clause-fault : goal.returns-clause-fault
returns-clause-fault g c = λ other.
    let taken = g.B.Wire.taken in
    let same = c.refusal.ensures other in
    ⊎_elim (λ device. absurd (same.1 device))
    (λ rest. ⊎_elim (λ memory. absurd (other (same.0 ∙ memory)))
    (λ refused. subst (λ (e : StoreFault). found (payloads taken) nothing_saved c.args.bytes.items ≡ Err e) (sym same.0) (refused_is taken c.args.bytes.items _ c.new-disk.ensures.value c.in-Err.fault refused)) rest)
    (c.in-Err.ensures.fault c.new-disk.ensures.honest)
