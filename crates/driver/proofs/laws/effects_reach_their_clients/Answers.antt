use Rattle.driver.proofs.Reaching.{effects_reach}
use Rattle.driver.proofs.laws.effects_reach_their_clients.Goals as goal

pub returns : goal.returns
returns c = effects_reach
