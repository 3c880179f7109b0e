use Rattle.store_life.proofs.Lives.{serials_go_on, waiting_lines_go_on}
use Rattle.store_life.proofs.life.waiting_lines_go_on.Goals as goal

pub returns-clause-lines : goal.returns-clause-lines
returns-clause-lines c = waiting_lines_go_on

pub returns-clause-serials : goal.returns-clause-serials
returns-clause-serials c = serials_go_on
