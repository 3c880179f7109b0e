use Rattle.std.proofs.Common.{◌≡◌, map, take}
use Rattle.renewal.specs.Lists.{entry_of}
use Rattle.renewal.proofs.logs.logged.Given as goal

abbrev pub invariant-loop-body : goal.invariant-loop-body
invariant-loop-body g l = l.log ≡ map (entry_of l.term) (take l.body-index l.bodies)
