use Rattle.driver.proofs.Farewells.{shown_all}
use Rattle.driver.proofs.laws.who_leaves_is_shown_all.Goals as goal

pub returns : goal.returns
returns c = shown_all
