use Rattle.renewal.specs.Moved.{goes}
use Rattle.renewal.proofs.Staying.{channels_there, names_stay}
use Rattle.renewal.proofs.laws.what_a_change_keeps.Goals as goal

pub returns-clause-names : goal.returns-clause-names
returns-clause-names c = λ s t forgotten was h id. names_stay forgotten id h.names.ids

pub returns-clause-channels : goal.returns-clause-channels
returns-clause-channels c = λ s t forgotten was h key. channels_there s t (goes forgotten h.names.ids) was h.channels key
