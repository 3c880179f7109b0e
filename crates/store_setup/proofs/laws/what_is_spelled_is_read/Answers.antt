use Rattle.store_setup.proofs.RoundTrip.{one_spelling}
use Rattle.store_setup.proofs.laws.what_is_spelled_is_read.Goals as goal

pub returns-clause-one : goal.returns-clause-one
returns-clause-one c = one_spelling
