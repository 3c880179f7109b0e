use Rattle.std.proofs.Common.{◌≡◌, ◌∙◌, ◌+◌, ◌-◌, IsTrue, Bool, ℕ, List, [], length, sym, ap, subst, arith}
use Rattle.std.proofs.lemmas.Result.{on_ok_weaker}
use Rattle.journal_store.specs.declared.known.Known.{Known}
use Rattle.journal_store.specs.Disks.{DiskState, Runs, not_covered, now, writing}
use Rattle.journal_store.specs.Serving.{rewriting}
use Rattle.journal_store.proofs.Mending.{behind_covered, gate_covered, gate_within, opening_of, settled_left, staged_of}
use Rattle.journal_store.proofs.mend.write_again.Goals as goal

pub rewrite-requires : goal.rewrite-requires
rewrite-requires g c = λ h.
    let before = subst (λ (b : Bool). IsTrue b) c.len.ensures.honest h in
    let sound = c.requires before in
    let within = gate_within g.B.Wire.taken _ sound.0 c.args.gate (g.met.D.Disk.reads_as c.args.disk.now before) c.args.known sound.1 in
    let same = ap (λ (l : List DiskState). length (now l).bytes) (c.len.ensures.same before) in
    omega (arith, same, within, c.in_ok-len-in-ToGate.ensures.len before, c.in_ok-len-in-ToGate.ensures.limit before, c.saturating_add-behind.ensures, c.saturating_sub.ensures)

pub rewrite-requires-in-ButGate : goal.rewrite-requires-in-ButGate
rewrite-requires-in-ButGate g c = λ h.
    let sound = c.requires h in
    let within = gate_within g.B.Wire.taken _ sound.0 c.args.gate (g.met.D.Disk.reads_as c.args.disk.now h) c.args.known sound.1 in
    omega (arith, within)

pub returns-in-All-clause-covered : goal.returns-in-All-clause-covered
returns-in-All-clause-covered g c = λ h.
    let sound = c.requires h in
    settled_left g.B.Wire.taken _ sound.0 c.args.gate (g.met.D.Disk.reads_as c.args.disk.now h) c.args.known c.in-All.is sound.1

pub returns-in_ok-len-in-ToGate-clause-runs : goal.returns-in_ok-len-in-ToGate-clause-runs
returns-in_ok-len-in-ToGate-clause-runs g c = λ h.
    let sound = c.requires h in
    let still = subst (λ (b : Bool). IsTrue b) (sym c.len.ensures.honest) h in
    let old = g.D.Disk.states c.args.disk.now in
    let new = g.D.Disk.states c.rewrite.new.disk in
    let within = gate_within g.B.Wire.taken _ sound.0 c.args.gate (g.met.D.Disk.reads_as c.args.disk.now h) c.args.known sound.1 in
    let len = c.in_ok-len-in-ToGate.ensures.len h in
    let limit = c.in_ok-len-in-ToGate.ensures.limit h in
    let place : c.saturating_add-behind.result ≡ c.args.gate + 1 = omega (arith, within, len, limit, c.saturating_add-behind.ensures) in
    let size : c.saturating_sub.result ≡ length (now old).bytes - (c.args.gate + 1) = omega (arith, within, len, limit, c.saturating_add-behind.ensures, c.saturating_sub.ensures) in
    let run = subst (λ (l : List DiskState). Runs (writing c.saturating_add-behind.result c.saturating_sub.result (now l)) l new) (c.len.ensures.same h) (c.rewrite.ensures.runs still) in
    let at = subst (λ (n : ℕ). Runs (writing n c.saturating_sub.result (now old)) old new) place run in
    subst (λ (k : Known). Runs (rewriting k c.args.gate (now old)) old new) (sym c.in-ToGate.is) (subst (λ (n : ℕ). Runs (writing (c.args.gate + 1) n (now old)) old new) size at)

pub returns-in_ok-len-in-ToGate-clause-covered : goal.returns-in_ok-len-in-ToGate-clause-covered
returns-in_ok-len-in-ToGate-clause-covered g c = λ h.
    let sound = c.requires h in
    let own = g.met.D.Disk.reads_as c.args.disk.now h in
    let still = subst (λ (b : Bool). IsTrue b) (sym c.len.ensures.honest) h in
    let old = g.D.Disk.states c.args.disk.now in
    let mid = g.D.Disk.states c.len.new.self in
    let new = g.D.Disk.states c.rewrite.new.disk in
    let within = gate_within g.B.Wire.taken _ sound.0 c.args.gate own c.args.known sound.1 in
    let len = c.in_ok-len-in-ToGate.ensures.len h in
    let limit = c.in_ok-len-in-ToGate.ensures.limit h in
    let place : c.saturating_add-behind.result ≡ c.args.gate + 1 = omega (arith, within, len, limit, c.saturating_add-behind.ensures) in
    let size : c.saturating_sub.result ≡ length (now old).bytes - (c.args.gate + 1) = omega (arith, within, len, limit, c.saturating_add-behind.ensures, c.saturating_sub.ensures) in
    on_ok_weaker {P = (now new).left ≡ not_covered c.saturating_add-behind.result c.saturating_sub.result (length (now mid).bytes) (now mid).left} {Q = (now new).left ≡ []} c.rewrite.result
    (λ is. is
    ∙ (ap (λ (l : List DiskState). not_covered c.saturating_add-behind.result c.saturating_sub.result (length (now l).bytes) (now l).left) (c.len.ensures.same h)
    ∙ (ap (λ (n : ℕ). not_covered n c.saturating_sub.result (length (now old).bytes) (now old).left) place
    ∙ (ap (λ (n : ℕ). not_covered (c.args.gate + 1) n (length (now old).bytes) (now old).left) size
    ∙ behind_covered g.B.Wire.taken old sound.0 c.args.gate own (staged_of g.B.Wire.taken old sound.0 c.args.gate own c.args.known c.in-ToGate.is sound.1))))) (c.rewrite.ensures.left still)

pub returns-in-ButGate-clause-covered : goal.returns-in-ButGate-clause-covered
returns-in-ButGate-clause-covered g c = λ h.
    let sound = c.requires h in
    let own = g.met.D.Disk.reads_as c.args.disk.now h in
    let old = g.D.Disk.states c.args.disk.now in
    let new = g.D.Disk.states c.rewrite-in-ButGate.new.disk in
    on_ok_weaker {P = (now new).left ≡ not_covered c.args.gate 1 (length (now old).bytes) (now old).left} {Q = (now new).left ≡ []} c.rewrite-in-ButGate.result
    (λ is. is ∙ gate_covered g.B.Wire.taken old sound.0 c.args.gate own (opening_of g.B.Wire.taken old sound.0 c.args.gate own c.args.known c.in-ButGate.is sound.1)) (c.rewrite-in-ButGate.ensures.left h)
