use Rattle.node_cases.proofs.Seating.{acted_by}
use Rattle.node_cases.proofs.tickets.seated.run.Goals as goal

pub returns : goal.returns
returns g c = acted_by _ _ _ _ _ _ c.in_ok-output.ensures.0 c.in_ok-output.ensures.1
