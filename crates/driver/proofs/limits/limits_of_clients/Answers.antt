use Rattle.std.proofs.Common.{refl, arith}
use Rattle.driver.proofs.limits.limits_of_clients.Goals as goal

pub returns : goal.returns
returns c = record {
  registers = refl;
  silence = refl;
  leaves = refl;
  waiting = refl;
  room = omega arith;
}
