use Rattle.driver.proofs.Phasing.{ends_told, sessions_told}
use Rattle.driver.proofs.laws.sessions_are_told.Goals as goal

pub returns-clause-order : goal.returns-clause-order
returns-clause-order c = sessions_told

pub returns-clause-ends : goal.returns-clause-ends
returns-clause-ends c = ends_told
