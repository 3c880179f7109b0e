use Rattle.headline.proofs.Marks as proved
use Rattle.headline.proofs.laws.confirmed_looks_are_current.Goals as goal

pub returns : goal.returns
returns c = record { above = λ s. proved.marks_are_above s; applied = λ s. proved.applied_marks s; looks = λ s. proved.confirmed_looks s }
