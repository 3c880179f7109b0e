use Rattle.world_views.proofs.Openings.{all_agree, agree_before}
use Rattle.world_views.proofs.one_history.committed_lists_agree.Goals as goal

pub returns : goal.returns
returns g c = record { now = λ s. all_agree _; before = λ s. agree_before _ }
