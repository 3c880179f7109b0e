use Rattle.store_life.proofs.Opened.{keep_the_promises}
use Rattle.store_life.proofs.laws.begun_anew_keeps_the_promises.Goals as goal

pub returns : goal.returns
returns c = λ s. keep_the_promises s
