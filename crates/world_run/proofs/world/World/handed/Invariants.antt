use Rattle.std.proofs.Common.{◌≡◌, ◌++◌, drop, map}
use Rattle.world_run.specs.Handing.{handed_in}
use Rattle.world_run.proofs.world.World.handed.Given as goal

abbrev pub invariant-loop-outcome : goal.invariant-loop-outcome
invariant-loop-outcome g l =
    map (λ h. (h.0, h.1.now)) l.lines.items ++ handed_in g.M.Hosted.class (drop l.outcome-index l.outcome-items) ≡ handed_in g.M.Hosted.class l.fn.self.outs
