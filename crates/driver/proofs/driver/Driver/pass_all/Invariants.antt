use Rattle.std.proofs.Common.{drop}
use Rattle.driver.specs.declared.driver.Driver.{Driver}
use Rattle.driver.specs.Passing.{PassEach}
use Rattle.driver.proofs.driver.Driver.pass_all.Given as goal

-- once those that are left pass, all have
abbrev pub invariant-loop-effect : goal.invariant-loop-effect
invariant-loop-effect l =
    (new : Driver) → PassEach l.now.ms l.now.at l.node (drop l.effect-index l.effects) l.self new
    → PassEach l.now.ms l.now.at l.node l.effects l.initial.self new
