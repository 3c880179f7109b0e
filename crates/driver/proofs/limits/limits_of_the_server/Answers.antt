use Rattle.std.proofs.Common.{refl}
use Rattle.driver.proofs.limits.limits_of_the_server.Goals as goal

pub returns : goal.returns
returns c = record {
  first = refl;
  longest = refl;
  good = refl;
  quiet = refl;
  unopened = refl;
  alike = refl;
  closes = refl;
  at_once = refl;
  bytes = refl;
  questions = refl;
  channels = refl;
  keys = refl;
  reason = refl;
}
