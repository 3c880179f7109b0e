use Rattle.std.proofs.Common.{◌≡◌, ◌++◌, length, map}
use Rattle.irc_line.specs.Reading.{parameters_of}
use Rattle.irc_line.proofs.tail.lent_parameters.Given as goal

abbrev pub invariant-loop-parameter : goal.invariant-loop-parameter
invariant-loop-parameter l = map (λ x. x.now) l.all.items ++ parameters_of l.left ≡ parameters_of l.text

abbrev pub decreases-loop-parameter : goal.decreases-loop-parameter
decreases-loop-parameter l = length l.left
