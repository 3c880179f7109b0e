use Rattle.driver.proofs.Paced.{paced}
use Rattle.driver.proofs.laws.lines_are_paced.Goals as goal

pub returns : goal.returns
returns c = paced
