use Rattle.progress.proofs.Reaching.{can_be_elected, has_candidate}
use Rattle.progress.proofs.laws.a_leader_can_be_had.Goals as goal

pub returns : goal.returns
returns g c = record { elects = λ s. can_be_elected _; chooses = λ s. has_candidate _ }
