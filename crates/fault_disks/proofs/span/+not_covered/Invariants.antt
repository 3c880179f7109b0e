use Rattle.std.proofs.Common.{length}
use Rattle.fault_disks.proofs.span.+not_covered.Given as goal

abbrev pub decreases-not_covered : goal.decreases-not_covered
decreases-not_covered l = length l.spans.now
