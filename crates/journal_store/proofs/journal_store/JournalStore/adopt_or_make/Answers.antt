use Rattle.std.proofs.Common.{rules, ◌≡◌, false, inl, inr, List, ℕ, Bool, IsTrue, subst, sym, arith}
use Rattle.std.proofs.lemmas.Result.{IfOk-weaker}
use Rattle.stable_store.specs.Stores.{nothing_saved}
use Rattle.journal_store.specs.Disks.{IsImage, LeavesOnly, now, settled_at}
use Rattle.journal_store.specs.Opening.{IsKept, IsOpened, IsToBeMade}
use Rattle.journal_store.specs.Payloads.{payloads}
use Rattle.journal_store.specs.Serving.{IsNew}
use Rattle.journal_store.proofs.Keeping.{kept_adopted, kept_made, to_be_made}
use Rattle.journal_store.proofs.Saving.{place_within, stands}
use Rattle.journal_store.proofs.journal_store.JournalStore.adopt_or_make.Goals as goal

pub invariant_of-result : goal.invariant_of-result
invariant_of-result g c = λ h.
    let before : IsTrue (g.D.Disk.honest c.args.disk) = subst (λ (b : Bool). IsTrue b) c.read_whole.ensures.honest h in
    let whole = c.in_ok-file.ensures.settled before (c.in_ok-check_unfailed.ensures.settled before) in
    let settled : now (g.D.Disk.states c.read_whole.new.disk) ≡ settled_at c.deref.result.now = search (rules, whole) in
    let place = place_within (payloads g.B.Wire.taken) nothing_saved c.deref.result.now c.in-Ok.saved c.in-Ok.end c.in-Ok.ensures.ok in
    record { file = c.deref.result.now; settled = settled; rest = c.in-Ok.ensures.ok; small = omega (arith, place, c.in_ok-file.file.small, c.deref.ensures.len) }

pub returns-in-Ok-clause-opened : goal.returns-in-Ok-clause-opened
returns-in-Ok-clause-opened g c = λ h.
    let same : c.deref.result.now ≡ (now (g.D.Disk.states c.args.disk)).bytes = search (rules, c.in_ok-file.ensures.read h) in
    inl (record {
      file = c.deref.result.now;
      image = subst (λ (l : List ℕ). IsImage (now (g.D.Disk.states c.args.disk)) l) (sym same) (g.met.D.Disk.reads_as c.args.disk h);
      stands = stands (payloads g.B.Wire.taken) nothing_saved c.deref.result.now c.in-Ok.saved c.in-Ok.end c.in-Ok.ensures.ok;
    })

pub returns-in-Ok-clause-any_moment : goal.returns-in-Ok-clause-any_moment
returns-in-Ok-clause-any_moment g c = λ h. kept_adopted g.B.Wire.taken _ _ (c.read_whole.ensures.runs h)

pub returns-then-len-le-EMPTY_LEN-clause-opened : goal.returns-then-len-le-EMPTY_LEN-clause-opened
returns-then-len-le-EMPTY_LEN-clause-opened g c = λ h.
    let old = now (g.D.Disk.states c.args.disk) in
    let made_of : IsToBeMade g.B.Wire.taken old = to_be_made g.B.Wire.taken old c.deref.result.now c.in-Err.fault (search (rules, c.in_ok-file.ensures.read h)) (search rules) (search (rules, c.find.ensures.fault)) in
    IfOk-weaker c.make.result (λ j. (j.saved ≡ nothing_saved) × (j.broken ≡ false)) (λ j. IsOpened g.B.Wire.taken old j.saved) (λ j made. inr (made.0, made_of)) c.make.ensures.saved

pub returns-then-len-le-EMPTY_LEN-clause-any_moment : goal.returns-then-len-le-EMPTY_LEN-clause-any_moment
returns-then-len-le-EMPTY_LEN-clause-any_moment g c = λ h.
    let old = g.D.Disk.states c.args.disk in
    let mid = g.D.Disk.states c.read_whole.new.disk in
    let asked : IsTrue (g.D.Disk.honest c.read_whole.new.disk) = subst (λ (b : Bool). IsTrue b) (sym c.read_whole.ensures.honest) h in
    let made_of : IsToBeMade g.B.Wire.taken (now old) = to_be_made g.B.Wire.taken (now old) c.deref.result.now c.in-Err.fault (search (rules, c.in_ok-file.ensures.read h)) (search rules) (search (rules, c.find.ensures.fault)) in
    IfOk-weaker c.make.result (λ j. LeavesOnly (IsNew g.B.Wire.taken) mid (g.D.Disk.states j.disk)) (λ j. LeavesOnly (IsKept g.B.Wire.taken (now old)) old (g.D.Disk.states j.disk))
    (λ j made. kept_made g.B.Wire.taken old mid (g.D.Disk.states j.disk) made_of (c.read_whole.ensures.runs h) made) (c.make.ensures.any_moment asked)
