use Rattle.std.proofs.Common.{length}
use Rattle.irc_line.proofs.fold.+compare_names.Given as goal

abbrev pub decreases-compare_names : goal.decreases-compare_names
decreases-compare_names l = length l.a.now
