use Rattle.driver.proofs.Opened.{opens_once}
use Rattle.driver.proofs.laws.sessions_open_once.Goals as goal

pub returns : goal.returns
returns c = opens_once
