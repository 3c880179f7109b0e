use Rattle.world_run.proofs.Holds.{logs_match}
use Rattle.world_run.proofs.agreeing.logs_match.Goals as goal

pub returns : goal.returns
returns g c = λ s. logs_match _
