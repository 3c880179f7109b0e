use Rattle.std.proofs.Common.{length}
use Rattle.fault_disks.proofs.span.+is_outside.Given as goal

abbrev pub decreases-is_outside : goal.decreases-is_outside
decreases-is_outside l = length l.spans.now
