use Rattle.uplink.proofs.Orders.{inputs_ordered}
use Rattle.uplink.proofs.laws.a_session_opens_and_ends_once.Goals as goal

pub returns : goal.returns
returns c = inputs_ordered
