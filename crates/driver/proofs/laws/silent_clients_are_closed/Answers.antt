use Rattle.driver.proofs.SilentTicks.{silent_closed}
use Rattle.driver.proofs.laws.silent_clients_are_closed.Goals as goal

pub returns : goal.returns
returns c = silent_closed
