use Rattle.world_app.proofs.Moments.{arrows_leave}
use Rattle.world_app.proofs.laws.arrows_leave_where_sent.Goals as goal

pub returns : goal.returns
returns g c = λ s. arrows_leave _
