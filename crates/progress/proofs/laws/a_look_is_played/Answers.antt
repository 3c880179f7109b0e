use Rattle.progress.proofs.Reaching.{looks_are_played}
use Rattle.progress.proofs.laws.a_look_is_played.Goals as goal

pub returns : goal.returns
returns g c = λ s. looks_are_played _
