use Rattle.std.proofs.Common.{ap, ◌∙◌}
use Rattle.world_run.proofs.world.World.outputs.Goals as goal

pub returns : goal.returns
returns g c = c.deref.ensures.value ∙ ap (λ w. w.outs) c.self.view_is
