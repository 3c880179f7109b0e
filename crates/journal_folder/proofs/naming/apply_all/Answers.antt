use Rattle.std.proofs.Common.{◌≡◌, ℕ, ◌+◌, ◌<◌, List, ◌∷◌, length, map, take, sym, subst, arith}
use Rattle.machine_laws.specs.Runs.{History, run}
use Rattle.raft_log.specs.declared.entry.Entry.{Entry}
use Rattle.raft_log.specs.Logs.{term_at}
use Rattle.journal_folder.proofs.Comes.{log_more}
use Rattle.journal_folder.proofs.naming.apply_all.Goals as goal

pub loop-applied-preserved : goal.loop-applied-preserved
loop-applied-preserved g c = λ s first.
    let log : List (Entry g.row.M-Command.Denot) = c.args.log.now in
    let i : ℕ = c.loop-applied.applied in
    let k : ℕ = c.new-place.result in
    let e : Entry g.row.M-Command.Denot = record { term = term_at log k; body = c.body.result.now } in
    let before : History g.row.M-Command.Denot = run (map (λ (x : Entry g.row.M-Command.Denot). x.body) (take i log)) in
    let within : i < length log = omega (arith, c.loop-applied-test.true, c.value-applied-end.ensures.value, c.len.ensures.value) in
    let more : run (map (λ (x : Entry g.row.M-Command.Denot). x.body) (take (i + 1) log)) ≡ (k, e.body) ∷ before = log_more log i k e within c.new-place.ensures c.body.ensures in
    let now : g.M.Machine.stands c.apply.new.self s ((c.value.result, c.get.result.now) ∷ before) = c.in_ok-apply.ensures.stands s before (c.loop-applied.invariant s first) in
    let placed : g.M.Machine.stands c.apply.new.self s ((k, c.get.result.now) ∷ before) = subst (λ (n : ℕ). g.M.Machine.stands c.apply.new.self s ((n, c.get.result.now) ∷ before)) c.value.ensures.value now in
    let given : g.M.Machine.stands c.apply.new.self s ((k, e.body) ∷ before) = subst (λ (b : g.row.M-Command.Denot). g.M.Machine.stands c.apply.new.self s ((k, b) ∷ before)) c.get.ensures.value placed in
    subst (λ (h : History g.row.M-Command.Denot). g.M.Machine.stands c.apply.new.self s h) (sym more) given
