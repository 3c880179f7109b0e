use Rattle.std.proofs.Common.{length}
use Rattle.irc_line.proofs.comparing.+behind_upper.Given as goal

abbrev pub decreases-behind_upper : goal.decreases-behind_upper
decreases-behind_upper l = length l.word.now
