use Rattle.std.proofs.Common.{length}
use Rattle.stable_store.proofs.entries.+all_fit.Given as goal

abbrev pub decreases-all_fit : goal.decreases-all_fit
decreases-all_fit g l = length l.entries.now
