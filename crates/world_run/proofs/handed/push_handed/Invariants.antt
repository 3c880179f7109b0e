use Rattle.std.proofs.Common.{◌≡◌, ◌++◌, drop, map}
use Rattle.world_run.specs.Handing.{hands_by}
use Rattle.world_run.proofs.handed.push_handed.Given as goal

abbrev pub invariant-loop-effect : goal.invariant-loop-effect
invariant-loop-effect g l =
    map (λ h. (h.0, h.1.now)) l.lines.items ++ hands_by g.M.Hosted.class (drop l.effect-index l.effects)
    ≡ map (λ h. (h.0, h.1.now)) l.initial.lines.items ++ hands_by g.M.Hosted.class l.effects
