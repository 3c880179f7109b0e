use Rattle.raft_log.proofs.Conflicts.{repair-added}
use Rattle.raft_log.proofs.laws.what_does_not_conflict_is_added.Goals as goal

pub returns : goal.returns
returns g c = repair-added
