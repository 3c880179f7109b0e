use Rattle.std.proofs.Common.{ap, ◌∙◌}
use Rattle.bouncer_tower.specs.Bodies.{next_claim, accepted, within_limit}
use Rattle.led_lists.proofs.claiming.LayersClaiming.next_claim.Goals as goal

pub returns : goal.returns
unfolding next_claim accepted
returns c = λ s h st. c.within_limit.ensures ∙ ap within_limit (c.next_claim.ensures s _ (c.machine.ensures s h st))
