use Rattle.std.proofs.Common.{◌≡◌, ◌++◌, map, take, drop}
use Rattle.driver.specs.Retiring.{heard_in}
use Rattle.driver.proofs.retirements.hear_each.Given as goal

-- those before the place know it, the others do not yet
abbrev pub invariant-loop-place : goal.invariant-loop-place
invariant-loop-place l =
    l.places ≡ map (heard_in l.node l.status l.done l.is_refused) (take l.place-index l.initial.places) ++ drop l.place-index l.initial.places
