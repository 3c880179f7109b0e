use Rattle.std.proofs.Common.{◌≡◌, ℕ, Option, true, false, sym, ap, ◌∙◌}
use Rattle.raft_log.specs.Runs.{goes_on, last_run}
use Rattle.raft_log.proofs.Changes.{added-same, added-new}
use Rattle.raft_log.proofs.run.add_term.Goals as goal

pub returns-then-goes_on-clause-ok : goal.returns-then-goes_on-clause-ok
returns-then-goes_on-clause-ok c = λ terms is at.
    let last : last_run c.args.runs.now.items ≡ c.last_term.result = sym (c.last_term.ensures ∙ ap last_run c.deref.ensures.value) in
    let same : goes_on (last_run c.args.runs.now.items) c.args.term ≡ true = ap (λ (o : Option ℕ). goes_on o c.args.term) last ∙ (sym c.goes_on.ensures ∙ c.if-goes_on.true) in
    added-same terms c.args.term c.args.runs.now.items is same

pub returns-clause-ok : goal.returns-clause-ok
returns-clause-ok c = λ terms is at.
    let last : last_run c.args.runs.now.items ≡ c.last_term.result = sym (c.last_term.ensures ∙ ap last_run c.deref.ensures.value) in
    let other : goes_on (last_run c.args.runs.now.items) c.args.term ≡ false = ap (λ (o : Option ℕ). goes_on o c.args.term) last ∙ (sym c.goes_on.ensures ∙ c.if-goes_on.false) in
    c.in_ok-push.ensures.items ∙ added-new terms c.args.term c.args.index c.args.runs.now.items is at other
