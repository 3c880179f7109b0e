use Rattle.std.proofs.Common.{◌∙◌}
use Rattle.bouncer_tower.specs.Bodies.{accepted, plain, unclaimed}
use Rattle.chat_log.proofs.log.copied_text.Goals as goal

pub returns : goal.returns
unfolding accepted unclaimed plain
returns c = λ s history st.
    c.in_ok-copy.ensures.items ∙ c.text.ensures s _ (c.machine-chat.ensures s _ (c.machine-2.ensures s _ (c.machine.ensures s history st)))
