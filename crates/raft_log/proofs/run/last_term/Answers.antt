use Rattle.std.proofs.Common.{None, ◌-◌, length, sym, refl}
use Rattle.raft_log.proofs.Changes.{last-run-at}
use Rattle.raft_log.proofs.run.last_term.Goals as goal

pub returns-in-Some : goal.returns-in-Some
returns-in-Some c = sym (last-run-at None c.args.runs.now (length c.args.runs.now - 1) c.in-Some.run'.now refl (sym c.in-Some.ensures.value))
