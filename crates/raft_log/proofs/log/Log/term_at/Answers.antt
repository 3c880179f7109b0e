use Rattle.std.proofs.Common.{◌≡◌, ℕ, List, Option, take, sym, ap, ◌∙◌}
use Rattle.std.specs.Option.{unwrap_or}
use Rattle.raft_log.specs.declared.run.Run.{Run}
use Rattle.raft_log.specs.Logs.{term_at}
use Rattle.raft_log.specs.Runs.{last_run, term_runs, terms}
use Rattle.raft_log.proofs.Changes.{keeps, term-by-runs}
use Rattle.raft_log.proofs.log.Log.term_at.Goals as goal

pub returns-in-Some : goal.returns-in-Some
returns-in-Some g c =
    let k = keeps c.self.inside.runs.items c.self.inside.bodies c.args.self.now c.self.view_is c.self.invariant in
    let begun : take c.begun_at-begun.result c.deref.result.now ≡ term_runs (take c.value.result (terms c.args.self.now)) = c.begun_at-begun.ensures.value (terms c.args.self.now) (c.deref.ensures.value ∙ k.runs) in
    let same : c.deref-2.result.now ≡ c.deref.result.now = c.deref-2.ensures.value ∙ sym c.deref.ensures.value in
    let last : c.last_term.result ≡ last_run (take c.begun_at-begun.result c.deref.result.now) = c.last_term.ensures ∙ ap (λ (z : List Run). last_run (take c.begun_at-begun.result z)) same in
    let found = term-by-runs c.args.self.now c.value.result (take c.begun_at-begun.result c.deref.result.now) c.last_term.result begun last in
    ap (λ (o : Option ℕ). unwrap_or o 0) (sym c.in-Some.is) ∙ (found ∙ ap (λ (n : ℕ). term_at c.args.self.now n) c.value.ensures.value)

pub returns-in-None : goal.returns-in-None
returns-in-None g c =
    let k = keeps c.self.inside.runs.items c.self.inside.bodies c.args.self.now c.self.view_is c.self.invariant in
    let begun : take c.begun_at-begun.result c.deref.result.now ≡ term_runs (take c.value.result (terms c.args.self.now)) = c.begun_at-begun.ensures.value (terms c.args.self.now) (c.deref.ensures.value ∙ k.runs) in
    let same : c.deref-2.result.now ≡ c.deref.result.now = c.deref-2.ensures.value ∙ sym c.deref.ensures.value in
    let last : c.last_term.result ≡ last_run (take c.begun_at-begun.result c.deref.result.now) = c.last_term.ensures ∙ ap (λ (z : List Run). last_run (take c.begun_at-begun.result z)) same in
    let found = term-by-runs c.args.self.now c.value.result (take c.begun_at-begun.result c.deref.result.now) c.last_term.result begun last in
    c.new.ensures ∙ (ap (λ (o : Option ℕ). unwrap_or o 0) (sym c.in-None.is) ∙ (found ∙ ap (λ (n : ℕ). term_at c.args.self.now n) c.value.ensures.value))
