use Rattle.raft_log.proofs.Conflicts.{repair-kept}
use Rattle.raft_log.proofs.laws.what_stands_before_a_conflict_is_kept.Goals as goal

pub returns : goal.returns
returns g c = repair-kept
