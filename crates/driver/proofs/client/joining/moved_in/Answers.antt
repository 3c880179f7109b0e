use Rattle.std.proofs.Common.{rules}
use Rattle.driver.proofs.Parting.{puts_nobody_out}
use Rattle.driver.proofs.client.joining.moved_in.Goals as goal

pub returns-in-74-clause-closed : goal.returns-in-74-clause-closed
returns-in-74-clause-closed c =
    puts_nobody_out c.args.nick.now c.args.shown.now c.behind_space-rest.result.now c.behind_space-rest.ensures c.in-74.len_at_least (search rules)
