use Rattle.world_run.proofs.Holds.{no_more}
use Rattle.world_run.proofs.faithful.no_more_leaves_than_is_agreed.Goals as goal

pub returns : goal.returns
returns g c = λ s. no_more _
