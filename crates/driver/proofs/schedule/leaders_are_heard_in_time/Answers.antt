use Rattle.driver.proofs.Beaten.{beats_in_time}
use Rattle.driver.proofs.Beating.{beats_behind_reports}
use Rattle.driver.proofs.schedule.leaders_are_heard_in_time.Goals as goal

pub returns-clause-done : goal.returns-clause-done
returns-clause-done c = beats_in_time

pub returns-clause-reported : goal.returns-clause-reported
returns-clause-reported c = beats_behind_reports
