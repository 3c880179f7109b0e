use Rattle.std.proofs.Common.{ap}
use Rattle.irc_line.specs.Names.{fold_name}
use Rattle.buffer_targets.proofs.QueryEdits.{query_pushed, query_made, query_unknown, index_set}
use Rattle.buffer_targets.proofs.queries.Queries.store.Goals as goal

pub invariant_of-self : goal.invariant_of-self
invariant_of-self c =
    index_set c.self.inside.targets.items _ c.in-Ok.place _ _ c.self.invariant c.index_mut.ensures.value (ap (λ x. x.name) c.push.ensures)

pub returns-in-Ok-clause-ok : goal.returns-in-Ok-clause-ok
returns-in-Ok-clause-ok c =
    rw (← c.self.view_is) (query_pushed c.args.most c.args.size c.args.name.now c.args.line c.args.here.now _ c.self.inside.targets.items c.in-Ok.place _ _ (ap fold_name c.as_bytes.ensures.value) c.self.invariant.different (rw c.deref.ensures.value at c.in-Ok.ensures.found.1) c.index_mut.ensures.value c.push.ensures)

pub returns-in_ok-insert-in-Err-clause-ok : goal.returns-in_ok-insert-in-Err-clause-ok
returns-in_ok-insert-in-Err-clause-ok c =
    rw (← c.self.view_is, c.keep_newest.ensures.items) (query_made c.args.most c.args.size c.args.name.now c.args.line c.args.here.now _ c.self.inside.targets.items _ _ (ap fold_name c.as_bytes.ensures.value) (rw c.deref.ensures.value at c.in-Err.ensures.absent.2) c.in_ok-target-in-Err.ensures c.in_ok-insert-in-Err.ensures.ok)

pub returns-in_err-target-in-Err-clause-known : goal.returns-in_err-target-in-Err-clause-known
returns-in_err-target-in-Err-clause-known c = λ known.
    let unknown = query_unknown (fold_name c.args.name.now) _ (rw (c.deref.ensures.value, c.as_bytes.ensures.value, c.self.view_is) at c.in-Err.ensures.absent.2) in
    cc

pub returns-in_err-insert-in-Err-clause-known : goal.returns-in_err-insert-in-Err-clause-known
returns-in_err-insert-in-Err-clause-known c = λ known.
    let unknown = query_unknown (fold_name c.args.name.now) _ (rw (c.deref.ensures.value, c.as_bytes.ensures.value, c.self.view_is) at c.in-Err.ensures.absent.2) in
    cc
