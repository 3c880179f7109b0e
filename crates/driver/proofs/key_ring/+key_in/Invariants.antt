use Rattle.std.proofs.Common.{length}
use Rattle.driver.proofs.key_ring.+key_in.Given as goal

abbrev pub decreases-key_in : goal.decreases-key_in
decreases-key_in l = length l.keys.now
