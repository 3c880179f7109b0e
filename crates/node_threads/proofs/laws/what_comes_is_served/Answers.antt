use Rattle.node_threads.proofs.Serving.{what_comes}
use Rattle.node_threads.proofs.laws.what_comes_is_served.Goals as goal

pub returns : goal.returns
returns g c s = what_comes _ _ _ _ _ _ _ _
