use Rattle.driver.proofs.Joining.{joins_fit}
use Rattle.driver.proofs.Keys.{keys_are_learnt}
use Rattle.driver.proofs.laws.keys_are_learnt.Goals as goal

pub returns-clause-learnt : goal.returns-clause-learnt
returns-clause-learnt c = keys_are_learnt

pub returns-clause-fit : goal.returns-clause-fit
returns-clause-fit c = joins_fit
