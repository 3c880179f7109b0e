use Rattle.std.proofs.Common.{length}
use Rattle.fault_disks.proofs.fault_disk.+failed.Given as goal

abbrev pub decreases-failed : goal.decreases-failed
decreases-failed l = length l.calls.now
