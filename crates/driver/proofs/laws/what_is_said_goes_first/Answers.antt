use Rattle.driver.proofs.Foremost.{opening_first}
use Rattle.driver.proofs.Questions.{questions_wait}
use Rattle.driver.proofs.Queueing.{said_in_order}
use Rattle.driver.proofs.laws.what_is_said_goes_first.Goals as goal

pub returns-clause-first : goal.returns-clause-first
returns-clause-first c = opening_first

pub returns-clause-order : goal.returns-clause-order
returns-clause-order c = said_in_order

pub returns-clause-questions : goal.returns-clause-questions
returns-clause-questions c = questions_wait
