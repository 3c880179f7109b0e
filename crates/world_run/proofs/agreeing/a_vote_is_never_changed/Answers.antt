use Rattle.world_run.proofs.Holds.{one_vote}
use Rattle.world_run.proofs.agreeing.a_vote_is_never_changed.Goals as goal

pub returns : goal.returns
returns g c = λ s. one_vote _
