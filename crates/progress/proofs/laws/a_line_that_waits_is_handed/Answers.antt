use Rattle.progress.proofs.Handed.{new_is_in_force, waiting_is_handed}
use Rattle.progress.proofs.laws.a_line_that_waits_is_handed.Goals as goal

pub returns : goal.returns
returns c = record { opened = λ s size es. new_is_in_force s size es; handed = λ s size es. waiting_is_handed s size es }
