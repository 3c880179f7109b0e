use Rattle.std.proofs.Common.{◌≡◌, ◌++◌, take, drop}
use Rattle.buffer_targets.specs.Targets.{counted}
use Rattle.buffer_targets.proofs.seen.count.Given as goal

abbrev pub invariant-loop-count : goal.invariant-loop-count
invariant-loop-count l =
    (l.counts ≡ take l.count-index (counted l.all l.gone l.here l.initial.counts) ++ drop l.count-index l.initial.counts) × (l.place ≡ l.count-index)
