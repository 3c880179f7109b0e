use Rattle.progress.proofs.Reaching.{can_settle}
use Rattle.progress.proofs.laws.what_a_leader_has_can_be_committed.Goals as goal

pub returns : goal.returns
returns g c = λ s. can_settle _
