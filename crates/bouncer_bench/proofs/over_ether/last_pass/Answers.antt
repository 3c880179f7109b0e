use Rattle.ether.proofs.Gathering.{popped}
use Rattle.bouncer_bench.proofs.over_ether.last_pass.Goals as goal

pub returns-in-Some : goal.returns-in-Some
returns-in-Some c = popped _ _ _ _ _ c.requires c.in-Some.ensures.items
