use Rattle.std.proofs.Common.{length}
use Rattle.irc_line.proofs.tail.+tail_size.Given as goal

abbrev pub decreases-tail_size : goal.decreases-tail_size
decreases-tail_size l = length l.text.now
