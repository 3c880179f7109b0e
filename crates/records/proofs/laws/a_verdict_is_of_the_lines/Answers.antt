use Rattle.records.proofs.VerdictSteps.{differs_is_first, same_is_equal}
use Rattle.records.proofs.laws.a_verdict_is_of_the_lines.Goals as goal

pub returns : goal.returns
returns c = record { same = same_is_equal; differs = differs_is_first }
