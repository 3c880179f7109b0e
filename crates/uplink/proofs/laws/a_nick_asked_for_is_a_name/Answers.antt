use Rattle.uplink.proofs.Orders.{nick_named}
use Rattle.uplink.proofs.laws.a_nick_asked_for_is_a_name.Goals as goal

pub returns : goal.returns
returns c = nick_named
