use Rattle.std.proofs.Common.{refl, arith}
use Rattle.driver.proofs.limits.limits_of_nodes.Goals as goal

pub returns : goal.returns
returns c = record {
  nodes = refl;
  waiting = refl;
  apart = refl;
  hangs = refl;
  answers = refl;
  sooner = omega arith;
  timeouts = refl;
  dead = refl;
  longest = refl;
  short = refl;
  good = refl;
}
