use Rattle.std.proofs.Common.{[], ◌∙◌, arith}
use Rattle.raft_log.proofs.Sending.{sent-step, node_still}
use Rattle.replication.specs.Replication.{on_append_reply}
use Rattle.replication.proofs.replies.on_append_reply.Goals as goal

pub returns : goal.returns
returns g c =
    sent-step c.replied-known.result c.args.log.now [] c.still.result c.still.ensures c.args.standing
    (λ s. on_append_reply c.args.standing.peers.size c.args.id s c.args.from c.args.term c.args.ok c.args.place)
    (λ sent. node_still c.replied-known.result c.args.log.now sent ∙ c.replied-known.ensures.step sent) c.replied-known.ensures.saved.0 (omega (arith, c.replied-known.ensures.saved.1)) c.replied-known.ensures.commit (λ w. c.replied-known.ensures.places)
