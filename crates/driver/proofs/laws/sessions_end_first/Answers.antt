use Rattle.driver.proofs.Lasting.{sessions_end}
use Rattle.driver.proofs.laws.sessions_end_first.Goals as goal

pub returns : goal.returns
returns c = sessions_end
