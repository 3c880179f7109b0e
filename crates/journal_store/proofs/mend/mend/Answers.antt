use Rattle.std.proofs.Common.{rules, ◌≡◌, ◌⊎◌, ⊎_elim, IsTrue, Bool, List, ℕ, sym, subst}
use Rattle.std.specs.Prelude.{IfOk}
use Rattle.std.proofs.lemmas.Result.{IfErr-weaker}
use Rattle.journal_store.specs.Causes.{IsMet}
use Rattle.journal_store.specs.Disks.{now}
use Rattle.journal_store.specs.Serving.{IsRefusedAs, StandsFor}
use Rattle.journal_store.proofs.Mending.{before_rewriting, not_refused}
use Rattle.journal_store.proofs.Moments.{then_syncs}
use Rattle.journal_store.proofs.mend.mend.Goals as goal

pub returns-clause-runs : goal.returns-clause-runs
returns-clause-runs g c = λ h.
    let still = subst (λ (b : Bool). IsTrue b) (sym c.write_again.ensures.honest) h in
    then_syncs _ _ _ _ (before_rewriting g.B.Wire.taken c.args.known c.args.gate (now (g.D.Disk.states c.args.disk.now))) (c.write_again.ensures.runs h) (c.read_anew.ensures.runs still)

pub returns-clause-found : goal.returns-clause-found
returns-clause-found g c = λ h.
    let still = subst (λ (b : Bool). IsTrue b) (sym c.write_again.ensures.honest) h in
    subst (λ (l : List ℕ). IfOk c.read_anew.result (λ r. StandsFor g.B.Wire.taken r.0 l)) (c.in_ok-write_again.ensures.same h) (c.read_anew.ensures.found still)

pub returns-clause-fault : goal.returns-clause-fault
returns-clause-fault g c = λ h.
    let still = subst (λ (b : Bool). IsTrue b) (sym c.write_again.ensures.honest) h in
    let sound = c.requires h in
    let own = g.met.D.Disk.reads_as c.args.disk.now h in
    let mid = g.D.Disk.failures c.write_again.new.disk in
    let passed : mid ≡ g.D.Disk.failures c.args.disk.now = search (rules, c.write_again.ensures.cause.passed) in
    let new = g.D.Disk.failures c.read_anew.new.disk in
    IfErr-weaker c.read_anew.result (λ e. IsMet mid new e ⊎ IsRefusedAs g.B.Wire.taken (now (g.D.Disk.states c.write_again.new.disk)).bytes e) (λ e. IsMet (g.D.Disk.failures c.args.disk.now) new e)
    (λ e is. ⊎_elim (λ met. subst (λ (n : ℕ). IsMet n new e) passed met)
    (λ refused. absurd (not_refused g.B.Wire.taken _ sound.0 c.args.gate own c.args.known sound.1 e (subst (λ (l : List ℕ). IsRefusedAs g.B.Wire.taken l e) (c.in_ok-write_again.ensures.same h) refused))) is) (c.read_anew.ensures.fault still)
