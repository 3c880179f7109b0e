use Rattle.std.proofs.Common.{length}
use Rattle.irc_line.proofs.tail.+parameters_in.Given as goal

abbrev pub decreases-parameters_in : goal.decreases-parameters_in
decreases-parameters_in l = length l.text.now
