use Rattle.std.proofs.Common.{arith}
use Rattle.toml.specs.View.{table_view}
use Rattle.bouncer_config.proofs.Places.{no_more, too_many}
use Rattle.bouncer_config.proofs.lists.channels.Goals as goal

pub returns-then-values-gt-MOST_CHANNELS-clause-err :
    goal.returns-then-values-gt-MOST_CHANNELS-clause-err
returns-then-values-gt-MOST_CHANNELS-clause-err c =
    too_many (table_view c.args.table.now) c.in-Some.values.now (rw c.in-Some.is at c.in_ok-values.ensures.some) (omega (arith, c.if-values-gt-MOST_CHANNELS.true))

pub returns-in-Some-2-clause-few : goal.returns-in-Some-2-clause-few
returns-in-Some-2-clause-few c =
    no_more (table_view c.args.table.now) c.in-Some.values.now (rw c.in-Some.is at c.in_ok-values.ensures.some) (omega (arith, c.if-values-gt-MOST_CHANNELS.false))
