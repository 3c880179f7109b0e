use Rattle.world_run.proofs.Holds.{up_to_date_holds}
use Rattle.world_run.proofs.agreeing.the_most_up_to_date_log_holds_all.Goals as goal

pub returns : goal.returns
returns g c = λ s. up_to_date_holds _
