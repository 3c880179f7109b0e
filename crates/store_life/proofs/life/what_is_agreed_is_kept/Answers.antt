use Rattle.store_life.proofs.Periods.{agreed_is_chosen, begun_is_agreed}
use Rattle.store_life.proofs.life.what_is_agreed_is_kept.Goals as goal

pub returns-clause-chosen : goal.returns-clause-chosen
returns-clause-chosen c = agreed_is_chosen

pub returns-clause-begun : goal.returns-clause-begun
returns-clause-begun c = begun_is_agreed
