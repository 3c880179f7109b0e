use Rattle.std.proofs.Common.{◌≡◌, ◌++◌, map, take, drop}
use Rattle.buffer_targets.specs.Targets.{cleared}
use Rattle.buffer_targets.proofs.queries.clear_each.Given as goal

abbrev pub invariant-loop-target : goal.invariant-loop-target
invariant-loop-target l = l.targets ≡ map cleared (take l.target-index l.initial.targets) ++ drop l.target-index l.initial.targets
