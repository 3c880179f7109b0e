use Rattle.world_views.proofs.Handing.{all_leave_no_more}
use Rattle.world_views.proofs.handed_apart.no_more_leaves_than_is_agreed.Goals as goal

pub returns : goal.returns
returns g c = λ s size next before views rule honest opened. all_leave_no_more _ before views
