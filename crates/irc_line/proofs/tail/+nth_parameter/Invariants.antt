use Rattle.std.proofs.Common.{length}
use Rattle.irc_line.proofs.tail.+nth_parameter.Given as goal

abbrev pub decreases-nth_parameter : goal.decreases-nth_parameter
decreases-nth_parameter l = length l.text.now
