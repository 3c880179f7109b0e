use Rattle.agreement.proofs.Elected.{leads_with_blank, full_leads, stop_keeps_blank}
use Rattle.agreement.proofs.laws.a_new_leader_appends_a_blank_entry.Goals as goal

pub returns : goal.returns
returns g c = record { leads = leads_with_blank; full = full_leads; stop = stop_keeps_blank }
