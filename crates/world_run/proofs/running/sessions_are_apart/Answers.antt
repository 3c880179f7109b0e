use Rattle.world_run.proofs.Holds.{sessions_apart}
use Rattle.world_run.proofs.Answers.{new_id_is_new}
use Rattle.world_run.proofs.running.sessions_are_apart.Goals as goal

pub returns : goal.returns
returns g c = record { apart = λ s. sessions_apart _; new = λ s. new_id_is_new _ }
