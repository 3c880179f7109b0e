use Rattle.headline.proofs.RealTime as proved
use Rattle.headline.proofs.laws.requests_are_linearizable.Goals as goal

pub returns : goal.returns
returns c = record { agreed = λ s. proved.done_is_agreed s; before = λ s. proved.done_is_before s }
