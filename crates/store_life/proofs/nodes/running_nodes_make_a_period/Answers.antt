use Rattle.store_life.proofs.Begins.{anew_run_begins, new_run_begins, run_goes_on, run_is_period}
use Rattle.store_life.proofs.nodes.running_nodes_make_a_period.Goals as goal

pub returns-clause-new : goal.returns-clause-new
returns-clause-new c = λ s. new_run_begins s

pub returns-clause-anew : goal.returns-clause-anew
returns-clause-anew c = λ s. anew_run_begins s

pub returns-clause-on : goal.returns-clause-on
returns-clause-on c = λ s. run_goes_on s

pub returns-clause-ends : goal.returns-clause-ends
returns-clause-ends c = run_is_period
