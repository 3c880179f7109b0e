use Rattle.store_life.proofs.GoingOn.{renewed_follows}
use Rattle.store_life.proofs.renewals.what_is_renewed_goes_on.Goals as goal

pub returns : goal.returns
returns c = renewed_follows
