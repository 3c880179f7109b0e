use Rattle.store_life.proofs.Clients.{nobody_told_in_both, told_in_its_run, told_in_new_runs}
use Rattle.store_life.proofs.life.no_client_is_told_in_two_periods.Goals as goal

pub returns-clause-made : goal.returns-clause-made
returns-clause-made c = told_in_its_run

pub returns-clause-new : goal.returns-clause-new
returns-clause-new c = told_in_new_runs

pub returns-clause-apart : goal.returns-clause-apart
returns-clause-apart c = nobody_told_in_both
