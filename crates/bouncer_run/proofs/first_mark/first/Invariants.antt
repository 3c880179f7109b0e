use Rattle.std.proofs.Common.{◌≡◌, None, take}
use Rattle.std.specs.List.{All}
use Rattle.bouncer_run.specs.Days.{moment_in}
use Rattle.bouncer_run.proofs.first_mark.first.Given as goal

-- none of those so far has a moment
abbrev pub invariant-loop-before : goal.invariant-loop-before
invariant-loop-before l = All (λ e. moment_in e.body ≡ None) (take l.before l.log)
