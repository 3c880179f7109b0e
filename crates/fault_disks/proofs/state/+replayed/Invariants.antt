use Rattle.std.proofs.Common.{length}
use Rattle.fault_disks.proofs.state.+replayed.Given as goal

abbrev pub decreases-replayed : goal.decreases-replayed
decreases-replayed l = length l.calls.now
