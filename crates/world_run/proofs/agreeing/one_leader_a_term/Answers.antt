use Rattle.world_run.proofs.Holds.{one_leader}
use Rattle.world_run.proofs.agreeing.one_leader_a_term.Goals as goal

pub returns : goal.returns
returns g c = λ s. one_leader _
