use Rattle.uplink.proofs.Orders.{cut_alike}
use Rattle.uplink.proofs.laws.the_cutting_does_not_matter.Goals as goal

pub returns : goal.returns
returns c = cut_alike
