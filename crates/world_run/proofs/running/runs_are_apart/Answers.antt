use Rattle.world_run.proofs.Answers.{asked_in_its_run, new_run_new_boot, applied_stays}
use Rattle.world_run.proofs.running.runs_are_apart.Goals as goal

pub returns : goal.returns
returns g c = record { boots = λ s. new_run_new_boot _; origins = λ s. asked_in_its_run _; applied = λ s. applied_stays _ }
