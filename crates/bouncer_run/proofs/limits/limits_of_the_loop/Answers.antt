use Rattle.std.proofs.Common.{refl}
use Rattle.bouncer_run.proofs.limits.limits_of_the_loop.Goals as goal

pub returns : goal.returns
returns c = record {
  tick = refl;
  look_every = refl;
  events = refl;
  messages = refl;
  told = refl;
  minute = refl;
  stop = refl;
}
