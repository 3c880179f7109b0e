use Rattle.driver.proofs.Restarted.{restarts_in_time}
use Rattle.driver.proofs.schedule.nodes_start_again_in_time.Goals as goal

pub returns : goal.returns
returns c = restarts_in_time
