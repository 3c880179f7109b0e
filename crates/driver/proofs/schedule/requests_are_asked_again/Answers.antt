use Rattle.driver.proofs.Retold.{asks_again}
use Rattle.driver.proofs.Unlost.{others_not_lost}
use Rattle.driver.proofs.schedule.requests_are_asked_again.Goals as goal

pub returns-clause-again : goal.returns-clause-again
returns-clause-again c = asks_again

pub returns-clause-others : goal.returns-clause-others
returns-clause-others c = others_not_lost
