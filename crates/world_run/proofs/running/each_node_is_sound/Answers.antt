use Rattle.world_run.proofs.Soundness.{each_is_sound}
use Rattle.world_run.proofs.running.each_node_is_sound.Goals as goal

pub returns : goal.returns
returns g c = λ s. each_is_sound _
