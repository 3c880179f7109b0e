use Rattle.driver.proofs.Counted.{said_counted}
use Rattle.driver.proofs.laws.what_is_said_is_counted.Goals as goal

pub returns : goal.returns
returns c = said_counted
