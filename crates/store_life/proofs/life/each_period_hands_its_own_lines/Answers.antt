use Rattle.store_life.proofs.Periods.{each_hands_its_lines}
use Rattle.store_life.proofs.life.each_period_hands_its_own_lines.Goals as goal

pub returns : goal.returns
returns c = each_hands_its_lines
