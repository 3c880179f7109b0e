use Rattle.std.proofs.Common.{ap}
use Rattle.irc_line.specs.Names.{fold_name}
use Rattle.buffer_targets.specs.Targets.{seen_all}
use Rattle.buffer_targets.proofs.QueryEdits.{query_set, index_set, no_query_set}
use Rattle.buffer_targets.proofs.queries.Queries.see_at.Goals as goal

pub invariant_of-self : goal.invariant_of-self
invariant_of-self c = index_set c.self.inside.targets.items _ c.in-Ok.place _ _ c.self.invariant c.index_mut.ensures.value (ap (λ x. x.name) c.see.ensures)

pub returns-in-Ok : goal.returns-in-Ok
returns-in-Ok c =
    rw (← c.self.view_is) (query_set (fold_name c.args.name.now) c.self.inside.targets.items c.in-Ok.place c.self.invariant.different (rw c.deref.ensures.value at c.in-Ok.ensures.found.1) (seen_all c.args.here.now) _ _ c.index_mut.ensures.value c.see.ensures)

pub returns-in-Err : goal.returns-in-Err
returns-in-Err c = rw (← c.self.view_is) (no_query_set (fold_name c.args.name.now) c.self.inside.targets.items (rw c.deref.ensures.value at c.in-Err.ensures.absent.2) (seen_all c.args.here.now))
