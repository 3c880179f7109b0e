use Rattle.raft_log.proofs.Conflicts.{repair-cut}
use Rattle.raft_log.proofs.laws.the_first_conflict_cuts.Goals as goal

pub returns : goal.returns
returns g c = repair-cut
