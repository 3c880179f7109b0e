use Rattle.std.proofs.Common.{refl, arith}
use Rattle.driver.proofs.limits.limits_of_guesses.Goals as goal

pub returns : goal.returns
returns c = record {
  first = refl;
  minute = refl;
  answered = refl;
  turns = refl;
  furthest = refl;
  in_time = omega arith;
}
