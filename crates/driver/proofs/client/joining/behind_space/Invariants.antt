use Rattle.std.proofs.Common.{◌≡◌, length}
use Rattle.driver.specs.Opening.{behind_space}
use Rattle.driver.proofs.client.joining.behind_space.Given as goal

-- what follows the first space of the rest follows the first space of all
abbrev pub invariant-loop-rest : goal.invariant-loop-rest
invariant-loop-rest l = behind_space l.rest ≡ behind_space l.bytes

abbrev pub decreases-loop-rest : goal.decreases-loop-rest
decreases-loop-rest l = length l.rest
