use Rattle.world_app.proofs.Moments.{rows_show}
use Rattle.world_app.proofs.laws.rows_show_worlds.Goals as goal

pub returns : goal.returns
returns g c = λ s. rows_show _
