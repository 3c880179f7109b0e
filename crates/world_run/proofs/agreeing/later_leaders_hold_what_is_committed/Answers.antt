use Rattle.world_run.proofs.Holds.{leaders_hold}
use Rattle.world_run.proofs.agreeing.later_leaders_hold_what_is_committed.Goals as goal

pub returns : goal.returns
returns g c = λ s. leaders_hold _
