use Rattle.raft_log.proofs.Changes.{first-at-1, runs-alternate}
use Rattle.raft_log.proofs.laws.runs_are_where_the_term_changes.Goals as goal

pub returns : goal.returns
returns g c = record { first = first-at-1; others = runs-alternate }
