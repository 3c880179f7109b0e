use Rattle.headline.proofs.Hands as proved
use Rattle.headline.proofs.laws.lines_are_handed_once.Goals as goal

pub returns : goal.returns
returns c = record { once = λ s. proved.handed_once s; outgoing = λ s. proved.handed_is_outgoing s }
