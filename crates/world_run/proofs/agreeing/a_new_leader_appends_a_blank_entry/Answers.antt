use Rattle.world_run.proofs.Elects.{leads_with_blank, full_leads, stop_keeps_blank}
use Rattle.world_run.proofs.agreeing.a_new_leader_appends_a_blank_entry.Goals as goal

pub returns : goal.returns
returns g c = record { leads = λ s. leads_with_blank _; full = λ s. full_leads _; stop = λ s. stop_keeps_blank _ }
