use Rattle.driver.proofs.Asking.{asks_once}
use Rattle.driver.proofs.laws.requests_are_told_once.Goals as goal

pub returns : goal.returns
returns c = asks_once
