use Rattle.client_gate.proofs.Seams.{answers_alike, leads_alike}
use Rattle.client_gate.proofs.laws.cutting_changes_nothing.Goals as goal

pub returns-clause-gate : goal.returns-clause-gate
returns-clause-gate c = leads_alike

pub returns-clause-answers : goal.returns-clause-answers
returns-clause-answers c = answers_alike
