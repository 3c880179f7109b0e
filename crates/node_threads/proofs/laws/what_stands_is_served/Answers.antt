use Rattle.node_threads.proofs.Serving.{what_stands}
use Rattle.node_threads.proofs.laws.what_stands_is_served.Goals as goal

pub returns : goal.returns
returns g c s = what_stands _ _ _ _ _ _ _ _
