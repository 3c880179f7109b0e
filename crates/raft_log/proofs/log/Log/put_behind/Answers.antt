use Rattle.std.proofs.Common.{◌≡◌, ◌≤◌, length, length-append, length-take, ℕ, List, ◌++◌, take, sym, ap, ◌∙◌, arith}
use Rattle.raft_log.specs.declared.entry.Entry.{Entry}
use Rattle.raft_log.specs.declared.run.Run.{Run}
use Rattle.raft_log.specs.Logs.{entry_limit}
use Rattle.raft_log.specs.Runs.{last_run, runs_behind, runs_of, term_runs, terms}
use Rattle.raft_log.proofs.Changes.{keeps, bodies, runs-behind, bodies-behind, log-is, log-view, made, on_ok}
use Rattle.raft_log.proofs.log.Log.put_behind.Goals as goal

pub replace_behind-requires-clause-within : goal.replace_behind-requires-clause-within
replace_behind-requires-clause-within g c =
    let k = keeps c.self.inside.runs.items c.self.inside.bodies c.args.self.now c.self.view_is c.self.invariant in
    omega (arith, k.len, c.value-keep.ensures.value, c.requires.within)

new-runs : (g : _) (c : goal.After-replace_tail g) → c.replace_tail.new.items.items ≡ runs_of (take c.args.index c.args.self.now ++ c.args.entries.items)
new-runs g c =
    let k = keeps c.self.inside.runs.items c.self.inside.bodies c.args.self.now c.self.view_is c.self.invariant in
    let log : List (Entry g.row.B.Denot) = c.args.self.now in
    let es : List (Entry g.row.B.Denot) = c.args.entries.items in
    let n : ℕ = c.begun_at-kept.result in
    let keep : ℕ = c.value-keep.result in
    let kept : List Run = take n c.self.inside.runs.items in
    let kept_is : kept ≡ term_runs (take keep (terms log)) = ap (take n) (sym c.deref.ensures.value) ∙ c.begun_at-kept.ensures.value (terms log) (c.deref.ensures.value ∙ k.runs) in
    let last_is : c.last_term-last.result ≡ last_run kept = c.last_term-last.ensures ∙ ap (λ (z : List Run). last_run (take n z)) c.deref-2.ensures.value in
    let begun_is : c.in_ok-begun.begun.items ≡ runs_behind c.last_term-last.result keep (terms es) = c.in_ok-begun.ensures ∙ ap (λ (z : List (Entry g.row.B.Denot)). runs_behind c.last_term-last.result keep (terms z)) c.deref-3.ensures.value in
    made c.replace_tail.result (c.replace_tail.ensures.room (omega (arith, c.in_ok-reserve.ensures.ok, c.len.ensures))) c.replace_tail.ensures.ok
    ∙ (ap (λ (z : List Run). take n z ++ c.in_ok-begun.begun.items) c.in_ok-reserve.ensures.items
    ∙ (runs-behind log es keep kept c.in_ok-begun.begun.items c.last_term-last.result (omega (arith, c.value-keep.ensures.value, c.requires.within)) kept_is last_is begun_is
    ∙ ap (λ (m : ℕ). runs_of (take m log ++ es)) c.value-keep.ensures.value))

new-bodies : (g : _) (c : goal.After-replace_tail g) → c.replace_behind.new.self ≡ bodies (take c.args.index c.args.self.now ++ c.args.entries.items)
new-bodies g c =
    let k = keeps c.self.inside.runs.items c.self.inside.bodies c.args.self.now c.self.view_is c.self.invariant in
    c.in_ok-replace_behind.ensures.ok
    ∙ (bodies-behind c.args.self.now c.args.entries.items c.value-keep.result c.self.inside.bodies c.in_ok-bodies.bodies.items k.bodies_are c.in_ok-bodies.ensures
    ∙ ap (λ (m : ℕ). bodies (take m c.args.self.now ++ c.args.entries.items)) c.value-keep.ensures.value)

pub invariant_of-self-2 : goal.invariant_of-self-2
invariant_of-self-2 g c =
    let log : List (Entry g.row.B.Denot) = take c.args.index c.args.self.now ++ c.args.entries.items in
    let few : length log ≤ entry_limit = omega (arith, length-append (take c.args.index c.args.self.now) c.args.entries.items, length-take c.args.index c.args.self.now, c.requires.room) in
    log-is c.replace_tail.new.items.items c.replace_behind.new.self log (new-runs g c) (new-bodies g c) few

pub returns-clause-ok : goal.returns-clause-ok
returns-clause-ok g c =
    on_ok c.replace_tail.result (log-view c.replace_tail.new.items.items c.replace_behind.new.self (take c.args.index c.args.self.now ++ c.args.entries.items) (new-runs g c) (new-bodies g c))
