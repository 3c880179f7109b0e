use Rattle.world_views.proofs.Handing.{handed_apart}
use Rattle.world_views.proofs.handed_apart.no_number_is_handed_by_two_nodes.Goals as goal

pub returns : goal.returns
returns g c = λ s. handed_apart _
