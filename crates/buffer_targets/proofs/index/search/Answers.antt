use Rattle.irc_line.specs.Names.{fold_name}
use Rattle.buffer_targets.specs.Targets.{query_names}
use Rattle.buffer_targets.proofs.Indexes.{none_in_index}
use Rattle.buffer_targets.proofs.QueryEdits.{found_query}
use Rattle.buffer_targets.proofs.index.search.Goals as goal

pub returns-in-Ok-clause-found : goal.returns-in-Ok-clause-found
returns-in-Ok-clause-found c =
    found_query (fold_name c.args.name.now) c.args.targets.now c.args.places.now c.in-Ok.found c.requires c.in-Ok.ensures.bound c.in-Ok.ensures.place

pub returns-in-Err-clause-absent : goal.returns-in-Err-clause-absent
returns-in-Err-clause-absent c =
    (c.in-Err.ensures.bound, c.in-Err.ensures.place, none_in_index (fold_name c.args.name.now) (query_names c.args.targets.now) c.args.places.now c.in-Err.gap c.requires c.in-Err.ensures.place)
