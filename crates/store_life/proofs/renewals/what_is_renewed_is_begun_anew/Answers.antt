use Rattle.store_life.proofs.GoingOn.{renewed_is_anew}
use Rattle.store_life.proofs.renewals.what_is_renewed_is_begun_anew.Goals as goal

pub returns : goal.returns
returns c = renewed_is_anew
