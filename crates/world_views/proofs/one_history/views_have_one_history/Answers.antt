use Rattle.world_views.proofs.Openings.{history}
use Rattle.world_views.proofs.one_history.views_have_one_history.Goals as goal

pub returns : goal.returns
returns g c = λ s. history _
