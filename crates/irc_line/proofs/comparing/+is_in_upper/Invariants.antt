use Rattle.std.proofs.Common.{length}
use Rattle.irc_line.proofs.comparing.+is_in_upper.Given as goal

abbrev pub decreases-is_in_upper : goal.decreases-is_in_upper
decreases-is_in_upper l = length l.word.now
