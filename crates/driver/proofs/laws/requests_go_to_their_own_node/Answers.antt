use Rattle.driver.proofs.Owning.{asks_own}
use Rattle.driver.proofs.laws.requests_go_to_their_own_node.Goals as goal

pub returns : goal.returns
returns c = asks_own
