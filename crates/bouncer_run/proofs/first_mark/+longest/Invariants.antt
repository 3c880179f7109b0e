use Rattle.std.proofs.Common.{length}
use Rattle.bouncer_run.proofs.first_mark.+longest.Given as goal

-- fewer are left
abbrev pub decreases-longest : goal.decreases-longest
decreases-longest l = length l.others.now
