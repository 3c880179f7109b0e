use Rattle.std.proofs.Common.{◌≡◌, ◌≤◌, ℕ, suc, List, [], ◌∷◌, ◌++◌, length, length-append, ◌∙◌, arith}
use Rattle.std.proofs.lemmas.List.{length-map}
use Rattle.raft_log.specs.declared.entry.Entry.{Entry}
use Rattle.raft_log.specs.Logs.{entry_limit}
use Rattle.raft_log.specs.Runs.{runs_of, terms, term_runs}
use Rattle.raft_log.proofs.Changes.{keeps, bodies, runs-more, bodies-more, log-is, log-view, made, on_ok}
use Rattle.raft_log.proofs.log.Log.push.Goals as goal

new-runs : (g : _) (c : goal.After-add_term g) → c.add_term.new.runs.items ≡ runs_of (c.args.self.now ++ c.args.entry ∷ [])
new-runs g c =
    let k = keeps c.self.inside.runs.items c.self.inside.bodies c.args.self.now c.self.view_is c.self.invariant in
    let ts : List ℕ = terms c.args.self.now in
    let old : c.reserve.new.self.items ≡ c.self.inside.runs.items = c.in_ok-reserve.ensures.items in
    let was : c.self.inside.runs.items ≡ term_runs ts = k.runs in
    let at : c.new-index.result ≡ suc (length ts) = omega (arith, c.new-index.ensures, c.len.ensures, k.len, length-map c.args.self.now (λ (x : Entry g.row.B.Denot). x.term)) in
    runs-more c.args.self.now c.args.entry c.add_term.new.runs.items (made c.add_term.result (c.add_term.ensures.room (omega (arith, c.in_ok-reserve.ensures.ok))) (c.add_term.ensures.ok ts (old ∙ was) at))

new-bodies : (g : _) (c : goal.After-add_term g) → c.push.new.self ≡ bodies (c.args.self.now ++ c.args.entry ∷ [])
new-bodies g c =
    let k = keeps c.self.inside.runs.items c.self.inside.bodies c.args.self.now c.self.view_is c.self.invariant in
    bodies-more c.args.self.now c.args.entry c.self.inside.bodies c.push.new.self k.bodies_are c.in_ok-push.ensures.ok

pub invariant_of-self-2 : goal.invariant_of-self-2
invariant_of-self-2 g c =
    let log : List (Entry g.row.B.Denot) = c.args.self.now ++ c.args.entry ∷ [] in
    let few : length log ≤ entry_limit = omega (arith, c.requires, length-append c.args.self.now (c.args.entry ∷ [])) in
    log-is c.add_term.new.runs.items c.push.new.self log (new-runs g c) (new-bodies g c) few

pub returns-clause-ok : goal.returns-clause-ok
returns-clause-ok g c =
    on_ok c.add_term.result (log-view c.add_term.new.runs.items c.push.new.self (c.args.self.now ++ c.args.entry ∷ []) (new-runs g c) (new-bodies g c))
