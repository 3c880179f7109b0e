use Rattle.driver.proofs.Counting.{notes_counted}
use Rattle.driver.proofs.laws.notes_are_counted.Goals as goal

pub returns : goal.returns
returns c = notes_counted
