use Rattle.driver.proofs.OneClaim.{one_waits}
use Rattle.driver.proofs.laws.one_claim_waits.Goals as goal

pub returns : goal.returns
returns c = one_waits
