use Rattle.progress.proofs.Reaching.{nothing_wedges, clients_may_ask, new_has_room}
use Rattle.progress.proofs.laws.nothing_wedges.Goals as goal

pub returns : goal.returns
returns g c = record { through = λ s. nothing_wedges _; clients = λ s. clients_may_ask _; new = λ s. new_has_room _ }
