use Rattle.agreement.proofs.UpToDate.{up_to_date_holds}
use Rattle.agreement.proofs.laws.the_most_up_to_date_log_holds_all.Goals as goal

pub returns : goal.returns
returns g c = up_to_date_holds
