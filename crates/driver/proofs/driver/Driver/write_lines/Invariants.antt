use Rattle.std.proofs.Common.{◌-◌}
use Rattle.driver.specs.declared.driver.Driver.{Driver}
use Rattle.driver.specs.declared.driver.writing.TheConstants.{MOST_AT_ONCE}
use Rattle.driver.specs.Writing.{WriteLines}
use Rattle.driver.proofs.driver.Driver.write_lines.Given as goal

-- once the lines left go out, all have
abbrev pub invariant-loop : goal.invariant-loop
invariant-loop l =
    (new : Driver) → WriteLines (MOST_AT_ONCE - l.counter) l.now.ms l.node l.self new → WriteLines MOST_AT_ONCE l.now.ms l.node l.initial.self new
