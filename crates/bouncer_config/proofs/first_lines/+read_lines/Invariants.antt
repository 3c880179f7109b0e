use Rattle.std.proofs.Common.{length}
use Rattle.bouncer_config.proofs.first_lines.+read_lines.Given as goal

abbrev pub decreases-read_lines : goal.decreases-read_lines
decreases-read_lines l = length l.values.now
