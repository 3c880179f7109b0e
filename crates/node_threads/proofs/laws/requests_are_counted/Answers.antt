use Rattle.node_threads.proofs.Serving.{requests_counted}
use Rattle.node_threads.proofs.laws.requests_are_counted.Goals as goal

pub returns : goal.returns
returns g c s = requests_counted _ _ _ _ _ _ _ _
