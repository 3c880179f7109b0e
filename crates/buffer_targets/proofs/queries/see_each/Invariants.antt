use Rattle.std.proofs.Common.{◌≡◌, ◌++◌, map, take, drop}
use Rattle.buffer_targets.specs.Targets.{seen_all}
use Rattle.buffer_targets.proofs.queries.see_each.Given as goal

abbrev pub invariant-loop-target : goal.invariant-loop-target
invariant-loop-target l = l.targets ≡ map (seen_all l.here) (take l.target-index l.initial.targets) ++ drop l.target-index l.initial.targets
