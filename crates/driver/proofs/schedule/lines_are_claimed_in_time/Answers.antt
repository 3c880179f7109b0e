use Rattle.driver.proofs.Reclaimed.{claims_in_time, new_claims_in_time}
use Rattle.driver.proofs.schedule.lines_are_claimed_in_time.Goals as goal

pub returns-clause-first : goal.returns-clause-first
returns-clause-first c = new_claims_in_time

pub returns-clause-again : goal.returns-clause-again
returns-clause-again c = claims_in_time
