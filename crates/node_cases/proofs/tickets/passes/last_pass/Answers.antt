use Rattle.ether.proofs.Gathering.{popped}
use Rattle.node_cases.proofs.tickets.passes.last_pass.Goals as goal

pub returns-in-Some : goal.returns-in-Some
returns-in-Some g c = popped _ _ _ _ _ c.requires c.in-Some.ensures.items
