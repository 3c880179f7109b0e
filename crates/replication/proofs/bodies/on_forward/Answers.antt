use Rattle.std.proofs.Common.{length, sym, ◌∙◌}
use Rattle.std.proofs.lemmas.Bool.{leb-true, leb-false}
use Rattle.raft_log.specs.Logs.{entry_limit}
use Rattle.raft_log.proofs.Sending.{ok_map}
use Rattle.replication.proofs.Asking.{leads, leads_not, forwards, drops_full, drops}
use Rattle.replication.proofs.bodies.on_forward.Goals as goal

pub returns-then-is_full : goal.returns-then-is_full
returns-then-is_full g c =
    drops_full c.args.standing c.args.log.now c.still.result c.args.body c.still.ensures (leads c.args.standing.position c.in-Leader.field-0 c.in-Leader.is)
    (leb-true entry_limit (length c.args.log.now) (sym c.is_full.ensures ∙ c.if-is_full.true))

pub returns-else-is_full : goal.returns-else-is_full
returns-else-is_full g c =
    ok_map c.append.result (λ step h. forwards c.args.standing c.args.log.now step c.args.body h (leads c.args.standing.position c.in-Leader.field-0 c.in-Leader.is)
    (leb-false entry_limit (length c.args.log.now) (sym c.is_full.ensures ∙ c.if-is_full.false))) c.append.ensures

pub returns-in_default : goal.returns-in_default
returns-in_default g c =
    drops c.args.standing c.args.log.now c.still-in_default.result c.args.body c.still-in_default.ensures (leads_not c.args.standing.position c.in_default.not-Leader)
