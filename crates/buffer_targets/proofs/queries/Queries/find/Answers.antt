use Rattle.irc_line.specs.Names.{fold_name}
use Rattle.buffer_targets.proofs.QueryEdits.{query_found, no_query_found}
use Rattle.buffer_targets.proofs.queries.Queries.find.Goals as goal

pub returns-in-Ok : goal.returns-in-Ok
returns-in-Ok c =
    rw (← c.self.view_is) (query_found (fold_name c.args.name.now) c.self.inside.targets.items c.in-Ok.place c.self.invariant.different (rw c.deref.ensures.value at c.in-Ok.ensures.found.1) _ c.index.ensures)

pub returns-in-Err : goal.returns-in-Err
returns-in-Err c = rw (← c.self.view_is) (no_query_found (fold_name c.args.name.now) c.self.inside.targets.items (rw c.deref.ensures.value at c.in-Err.ensures.absent.2))
