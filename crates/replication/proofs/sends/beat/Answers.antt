use Rattle.replication.proofs.Asking.{leads, leads_not, beats, beats_not}
use Rattle.replication.proofs.sends.beat.Goals as goal

pub returns-in-Leader : goal.returns-in-Leader
returns-in-Leader g c =
    beats c.args.standing c.args.log.now c.sending.result c.args.standing.peers.size c.args.id c.in_ok-messages.messages.items c.sending.ensures (leads c.args.standing.position c.in-Leader.field-0 c.in-Leader.is) c.in_ok-messages.ensures

pub returns : goal.returns
returns g c =
    beats_not c.args.standing c.args.log.now c.still.result c.args.standing.peers.size c.args.id c.still.ensures (leads_not c.args.standing.position c.in_default.not-Leader)
