use Rattle.driver.proofs.Led.{heard_of_leader, ticked_of_leader}
use Rattle.driver.proofs.laws.the_server_is_of_the_greatest_leader.Goals as goal

pub returns-clause-heard : goal.returns-clause-heard
returns-clause-heard c = heard_of_leader

pub returns-clause-ticked : goal.returns-clause-ticked
returns-clause-ticked c = ticked_of_leader
