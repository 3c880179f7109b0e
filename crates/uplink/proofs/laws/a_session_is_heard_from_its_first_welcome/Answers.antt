use Rattle.uplink.proofs.Orders.{all_inputs}
use Rattle.uplink.proofs.laws.a_session_is_heard_from_its_first_welcome.Goals as goal

pub returns : goal.returns
returns c = all_inputs
