use Rattle.std.proofs.Common.{refl, ◌∙◌}
use Rattle.world_lines.proofs.Told.{told}
use Rattle.world_lines.proofs.text.world_text.Goals as goal

pub returns : goal.returns
returns g c = λ setup.
    told _ _ _ c.args.events.now c.args.world.now _
    (c.in_ok-push_nodes.ensures ∙ rw (c.in_ok-push_outcomes.ensures, c.new-out.ensures.items, c.outputs.ensures) refl)
