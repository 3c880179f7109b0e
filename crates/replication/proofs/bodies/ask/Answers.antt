use Rattle.std.proofs.Common.{sym, ◌∙◌}
use Rattle.raft_log.proofs.Sending.{ok_map}
use Rattle.replication.proofs.Asking.{leads, leads_not, leader_asks, asks_none, asks_leader}
use Rattle.replication.proofs.bodies.ask.Goals as goal

pub returns-in-Leader : goal.returns-in-Leader
returns-in-Leader g c =
    ok_map c.on_forward.result (λ step h. leader_asks c.args.standing c.args.log.now step c.args.body c.args.id h (leads c.args.standing.position c.in-Leader.field-0 c.in-Leader.is)) c.on_forward.ensures

pub returns-in-None : goal.returns-in-None
returns-in-None g c =
    asks_none c.args.standing c.args.log.now c.still.result c.args.body c.args.id c.still.ensures
    (leads_not c.args.standing.position c.in_default.not-Leader) (sym c.leader-known.ensures ∙ c.in-None.is)

pub returns-in-Some : goal.returns-in-Some
returns-in-Some g c =
    ok_map c.answering.result (λ step h. asks_leader c.args.standing c.args.log.now step c.args.body c.args.id c.in-Some.leader c.value-from.result c.value-to.result h c.value-from.ensures.value c.value-to.ensures.value
    (leads_not c.args.standing.position c.in_default.not-Leader) (sym c.leader-known.ensures ∙ c.in-Some.is)) c.answering.ensures
