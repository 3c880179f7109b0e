use Rattle.driver.proofs.Downtime.{only_restarted}
use Rattle.driver.proofs.laws.a_node_that_is_down_is_only_restarted.Goals as goal

pub returns : goal.returns
returns c = only_restarted
