use Rattle.driver.proofs.Voting.{votes_in_ticks, votes_in_time}
use Rattle.driver.proofs.schedule.votes_are_asked_for_in_time.Goals as goal

pub returns-clause-silence : goal.returns-clause-silence
returns-clause-silence c = votes_in_time

pub returns-clause-ticks : goal.returns-clause-ticks
returns-clause-ticks c = votes_in_ticks
