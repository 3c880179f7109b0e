use Rattle.store_life.proofs.Lives.{none_handed_twice}
use Rattle.store_life.proofs.life.no_line_is_handed_twice.Goals as goal

pub returns : goal.returns
returns c = none_handed_twice
