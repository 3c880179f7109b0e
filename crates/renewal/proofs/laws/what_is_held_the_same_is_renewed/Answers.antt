use Rattle.renewal.proofs.Parts.{is_renewed}
use Rattle.renewal.proofs.laws.what_is_held_the_same_is_renewed.Goals as goal

pub returns : goal.returns
returns c = is_renewed
