use Rattle.world_run.proofs.Answers.{looks_are_faithful, apply_is_faithful}
use Rattle.world_run.proofs.faithful.what_leaves_is_of_the_agreed_list.Goals as goal

pub returns : goal.returns
returns g c = record { looks = λ s. looks_are_faithful _; applies = λ s. apply_is_faithful _ }
