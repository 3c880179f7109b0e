use Rattle.bouncer_tower.specs.Bodies.{accepted, session, unclaimed}
use Rattle.renewal.proofs.noting.session_of.Goals as goal

pub returns : goal.returns
unfolding accepted session unclaimed
returns c = λ s h st. c.session.ensures s _ (c.machine-fence.ensures s _ (c.machine-claims.ensures s h st))
