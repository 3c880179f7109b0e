use Rattle.world_views.proofs.Openings.{openings_go_on}
use Rattle.world_views.proofs.one_history.openings_go_on_from_events.Goals as goal

pub returns : goal.returns
returns g c = λ s. openings_go_on _
