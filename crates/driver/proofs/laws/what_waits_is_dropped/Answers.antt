use Rattle.driver.proofs.Dropping.{drops_what_waits}
use Rattle.driver.proofs.laws.what_waits_is_dropped.Goals as goal

pub returns : goal.returns
returns c = drops_what_waits
