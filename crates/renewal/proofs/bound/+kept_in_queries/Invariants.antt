use Rattle.std.proofs.Common.{length}
use Rattle.renewal.proofs.bound.+kept_in_queries.Given as goal

abbrev pub decreases-kept_in_queries : goal.decreases-kept_in_queries
decreases-kept_in_queries l = length l.queries.now
