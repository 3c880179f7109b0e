use Rattle.driver.proofs.Learning.{joins_show}
use Rattle.driver.proofs.laws.joins_show_the_nick_in_force.Goals as goal

pub returns : goal.returns
returns c = joins_show
