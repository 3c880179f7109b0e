use Rattle.std.proofs.Common.{length}
use Rattle.renewal.proofs.logs.+push_floors.Given as goal

abbrev pub decreases-push_floors : goal.decreases-push_floors
decreases-push_floors l = length l.boots.now
