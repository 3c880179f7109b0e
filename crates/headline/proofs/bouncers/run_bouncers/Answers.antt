use Rattle.headline.proofs.Promised.{headline_of, if_any}
use Rattle.headline.proofs.bouncers.run_bouncers.Goals as goal

pub returns-clause-headline : goal.returns-clause-headline
returns-clause-headline c = if_any _ (headline_of _ _ _)
