use Rattle.driver.proofs.Cycling.{cycles_go, only_joins}
use Rattle.driver.proofs.laws.a_channel_is_cycled.Goals as goal

pub returns-clause-joins : goal.returns-clause-joins
returns-clause-joins c = only_joins

pub returns-clause-cycles : goal.returns-clause-cycles
returns-clause-cycles c = cycles_go
