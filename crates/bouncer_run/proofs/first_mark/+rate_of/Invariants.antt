use Rattle.std.proofs.Common.{length}
use Rattle.bouncer_run.proofs.first_mark.+rate_of.Given as goal

-- fewer are left
abbrev pub decreases-rate_of : goal.decreases-rate_of
decreases-rate_of l = length l.journals.now
