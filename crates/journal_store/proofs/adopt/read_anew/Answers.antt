use Rattle.std.proofs.Common.{rules, ◌≡◌, Err, List, ℕ, ◌∙◌, subst}
use Rattle.std.proofs.lemmas.Result.{IfOk-weaker}
use Rattle.stable_store.specs.declared.store_fault.StoreFault.TheVariants.{Device}
use Rattle.stable_store.specs.Stores.{HasRisen, nothing_saved}
use Rattle.journal_store.specs.Disks.{now}
use Rattle.journal_store.specs.Journals.{AtRest, found}
use Rattle.journal_store.specs.Payloads.{payloads}
use Rattle.journal_store.specs.Serving.{IsRefusedAs, StandsFor}
use Rattle.journal_store.proofs.Saving.{stands}
use Rattle.journal_store.proofs.Weighing.{weigh}
use Rattle.journal_store.proofs.adopt.read_anew.Goals as goal

pub returns-clause-fault : goal.returns-clause-fault
returns-clause-fault g c = λ h.
    let old = (now (g.D.Disk.states c.args.disk.now)).bytes in
    let same : c.deref.result.now ≡ old = c.deref.ensures.value ∙ c.in_ok-file.ensures.read h in
    let passed : g.D.Disk.failures c.read_whole.new.disk ≡ g.D.Disk.failures c.args.disk.now = search (rules, c.read_whole.ensures.cause.passed) in
    weigh c.find.result (g.D.Disk.failures c.read_whole.new.disk ≡ g.D.Disk.failures c.args.disk.now) (λ e. found (payloads g.B.Wire.taken) nothing_saved c.deref.result.now ≡ Err e) (IsRefusedAs g.B.Wire.taken old)
    (λ e. (e ≡ Device) × HasRisen (g.D.Disk.failures c.args.disk.now) (g.D.Disk.failures c.read_whole.new.disk))
    passed (λ e is. subst (λ (l : List ℕ). IsRefusedAs g.B.Wire.taken l e) same is) c.find.ensures.fault

pub returns-clause-found : goal.returns-clause-found
returns-clause-found g c = λ h.
    let old = (now (g.D.Disk.states c.args.disk.now)).bytes in
    let same : c.deref.result.now ≡ old = c.deref.ensures.value ∙ c.in_ok-file.ensures.read h in
    IfOk-weaker c.find.result (λ r. AtRest (payloads g.B.Wire.taken) nothing_saved c.deref.result.now r.0 r.1) (λ r. StandsFor g.B.Wire.taken r.0 old)
    (λ r rest. subst (λ (l : List ℕ). StandsFor g.B.Wire.taken r.0 l) same (stands (payloads g.B.Wire.taken) nothing_saved c.deref.result.now r.0 r.1 rest)) c.find.ensures.ok
