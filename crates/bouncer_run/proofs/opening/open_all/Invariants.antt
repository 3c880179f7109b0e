use Rattle.std.proofs.Common.{◌≡◌, length}
use Rattle.std.specs.List.{All}
use Rattle.bouncer_run.specs.Opened.{Serves}
use Rattle.bouncer_run.proofs.opening.open_all.Given as goal

-- a journal for each node so far, which serves if it is open
abbrev pub invariant-loop-index : goal.invariant-loop-index
invariant-loop-index g l = record { count : length l.opened.items ≡ l.index; serve : All (Serves (λ j. j.broken)) l.opened.items }
