use Rattle.driver.proofs.Answered.{go_to_who_asks}
use Rattle.driver.proofs.laws.answers_go_to_who_asks.Goals as goal

pub returns : goal.returns
returns c = go_to_who_asks
