use Rattle.std.proofs.Common.{rules}
use Rattle.toml.specs.View.{table_view}
use Rattle.bouncer_config.proofs.Places.{no_group}
use Rattle.bouncer_config.proofs.lists.listed_for_a_group.Goals as goal

pub returns-then-not-is_group-clause-err : goal.returns-then-not-is_group-clause-err
returns-then-not-is_group-clause-err c =
    no_group (table_view c.args.table.now) c.in_ok-values.values.now c.in_ok-values.ensures.ok
    (search (rules, c.is_group.ensures, c.if-not-is_group.true, c.if-not-is_group.ensures))
