use Rattle.driver.proofs.Endings.{rewords_endings}
use Rattle.driver.proofs.laws.endings_are_reworded.Goals as goal

pub returns : goal.returns
returns c = rewords_endings
