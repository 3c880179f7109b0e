use Rattle.store_life.proofs.Opened.{opened}
use Rattle.store_life.proofs.laws.begun_anew_stores_are_openings.Goals as goal

pub returns : goal.returns
returns c = λ s. opened s
