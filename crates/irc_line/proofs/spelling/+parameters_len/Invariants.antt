use Rattle.std.proofs.Common.{length}
use Rattle.irc_line.proofs.spelling.+parameters_len.Given as goal

abbrev pub decreases-parameters_len : goal.decreases-parameters_len
decreases-parameters_len l = length l.parameters.now
