use Rattle.std.proofs.Common.{length}
use Rattle.driver.proofs.driver.watching.+serving.Given as goal

abbrev pub decreases-serving : goal.decreases-serving
decreases-serving l = length l.monitors.now
