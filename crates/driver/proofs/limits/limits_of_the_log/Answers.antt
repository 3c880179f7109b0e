use Rattle.std.proofs.Common.{refl}
use Rattle.driver.proofs.limits.limits_of_the_log.Goals as goal

pub returns : goal.returns
returns c = record {
  filling = refl;
  nearly = refl;
  full = refl;
  entries = refl;
}
