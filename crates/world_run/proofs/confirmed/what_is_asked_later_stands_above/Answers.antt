use Rattle.world_run.proofs.Above.{later_is_above, confirmed_has, applied_has, look_has}
use Rattle.world_run.proofs.confirmed.what_is_asked_later_stands_above.Goals as goal

pub returns : goal.returns
returns g c = record { above = λ s. later_is_above _; confirmed = λ s. confirmed_has _; applied = λ s. applied_has _; look = λ s. look_has _ }
