use Rattle.raft_log.proofs.Sending.{ok_map}
use Rattle.node_cases.proofs.Seating.{done_by}
use Rattle.node_cases.proofs.tickets.seated.step.Goals as goal

pub returns-in-Does-Timeout : goal.returns-in-Does-Timeout
returns-in-Does-Timeout g c = ok_map c.run.result (λ ms h. done_by _ _ _ _ _ _ _ c.in-Does-Timeout.is c.in-Does-Timeout.field-0-is h) c.run.ensures

pub returns-in-Does-Beat : goal.returns-in-Does-Beat
returns-in-Does-Beat g c = ok_map c.run-in-Does-Beat.result (λ ms h. done_by _ _ _ _ _ _ _ c.in-Does-Beat.is c.in-Does-Beat.field-0-is h) c.run-in-Does-Beat.ensures

pub returns-in-Does-Deliver : goal.returns-in-Does-Deliver
returns-in-Does-Deliver g c = ok_map c.run-in-Does-Deliver.result (λ ms h. done_by _ _ _ _ _ _ _ c.in-Does-Deliver.is c.in-Does-Deliver.field-0-is h) c.run-in-Does-Deliver.ensures
