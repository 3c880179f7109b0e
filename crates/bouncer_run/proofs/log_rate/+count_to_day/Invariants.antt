use Rattle.std.proofs.Common.{length}
use Rattle.bouncer_run.proofs.log_rate.+count_to_day.Given as goal

-- fewer are left
abbrev pub decreases-count_to_day : goal.decreases-count_to_day
decreases-count_to_day l = length l.marks.now
