use Rattle.std.proofs.Common.{length}
use Rattle.irc_line.proofs.tail.+are_spelled_from.Given as goal

abbrev pub decreases-are_spelled_from : goal.decreases-are_spelled_from
decreases-are_spelled_from l = length l.text.now
