use Rattle.std.proofs.Common.{length}
use Rattle.bouncer_run.proofs.opening.+first_open.Given as goal

-- fewer are left
abbrev pub decreases-first_open : goal.decreases-first_open
decreases-first_open l = length l.opened.now
