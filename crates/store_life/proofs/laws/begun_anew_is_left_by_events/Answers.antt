use Rattle.store_life.proofs.Left.{left}
use Rattle.store_life.proofs.laws.begun_anew_is_left_by_events.Goals as goal

pub returns : goal.returns
returns c = λ s. left s
