use Rattle.std.proofs.Common.{[], refl, subst, sym}
use Rattle.renewal.specs.Lists.{WereNoted}
use Rattle.renewal.proofs.LastLive.{noted_none}
use Rattle.renewal.proofs.noting.NotingMachine.start.Goals as goal

pub returns : goal.returns
returns c = (c.in_ok-start.ensures, subst (λ names. WereNoted c.args.setup.now [] names) (sym c.new.ensures.items) (noted_none c.args.setup.now), refl)
