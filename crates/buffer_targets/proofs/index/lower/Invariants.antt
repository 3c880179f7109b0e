use Rattle.std.proofs.Common.{◌≡◌, ◌++◌, ◌-◌, map, take, drop}
use Rattle.buffer_targets.proofs.index.lower.Given as goal

abbrev pub invariant-loop-place : goal.invariant-loop-place
invariant-loop-place l = l.places ≡ map (λ i. i - l.by) (take l.place-index l.initial.places) ++ drop l.place-index l.initial.places
