use Rattle.std.proofs.Common.{refl, arith}
use Rattle.bouncer_run.proofs.limits.limits_of_connections.Goals as goal

pub returns : goal.returns
returns c = record {
  clients = refl;
  taken = refl;
  piece = refl;
  pieces = refl;
  unsent = refl;
  longest_end = refl;
  held = refl;
  most_held = refl;
  waker = omega arith;
  server = omega arith;
}
