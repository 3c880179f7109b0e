use Rattle.bouncer_tower.specs.Bodies.{accepted, claimed, outgoing}
use Rattle.upstream_claim.specs.Numbered as lines
use Rattle.renewal.proofs.anew.waiting_of.Goals as goal

pub returns : goal.returns
unfolding accepted claimed outgoing lines.waiting lines.claimed lines.outgoing
returns c = λ s h st. c.waiting.ensures s _ (c.machine.ensures s h st)
