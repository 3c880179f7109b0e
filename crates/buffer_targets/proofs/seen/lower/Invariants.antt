use Rattle.std.proofs.Common.{◌≡◌, ◌-◌, ◌++◌, map, take, drop}
use Rattle.buffer_targets.proofs.seen.lower.Given as goal

abbrev pub invariant-loop-count : goal.invariant-loop-count
invariant-loop-count l = l.counts ≡ map (λ n. n - l.gone) (take l.count-index l.initial.counts) ++ drop l.count-index l.initial.counts
