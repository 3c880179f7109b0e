use Rattle.std.proofs.Common.{refl, sym, subst}
use Rattle.irc_line.specs.Names.{fold_name}
use Rattle.buffer_targets.specs.Targets.{QueryKeeps, resized}
use Rattle.buffer_targets.proofs.QueryEdits.{query_keeps, query_set_ok, index_set, same_name_of, no_query_set}
use Rattle.buffer_targets.proofs.queries.Queries.resize_at.Goals as goal

pub invariant_of-self : goal.invariant_of-self
invariant_of-self c =
    index_set c.self.inside.targets.items _ c.in-Ok.place _ _ c.self.invariant c.index_mut.ensures.value (same_name_of c.resize.result (resized c.args.size) (λ x. refl) _ _ c.resize.ensures.ok c.resize.ensures.err)

pub returns-in-Ok-clause-ok : goal.returns-in-Ok-clause-ok
returns-in-Ok-clause-ok c =
    rw (← c.self.view_is) (query_set_ok (fold_name c.args.name.now) c.self.inside.targets.items c.in-Ok.place c.self.invariant.different (rw c.deref.ensures.value at c.in-Ok.ensures.found.1) c.resize.result (resized c.args.size) _ _ c.index_mut.ensures.value c.resize.ensures.ok)

pub returns-in-Err-clause-ok : goal.returns-in-Err-clause-ok
returns-in-Err-clause-ok c =
    rw (← c.self.view_is) (no_query_set (fold_name c.args.name.now) c.self.inside.targets.items (rw c.deref.ensures.value at c.in-Err.ensures.absent.2) (resized c.args.size))

pub returns-in-Ok-clause-smaller : goal.returns-in-Ok-clause-smaller
returns-in-Ok-clause-smaller c = λ keeps.
    let keeps = subst (QueryKeeps (fold_name c.args.name.now) c.args.size) (sym c.self.view_is) keeps in
    c.resize.ensures.smaller (query_keeps (fold_name c.args.name.now) c.self.inside.targets.items c.in-Ok.place c.self.invariant.different (rw c.deref.ensures.value at c.in-Ok.ensures.found.1) c.args.size _ c.index_mut.ensures.value keeps)
