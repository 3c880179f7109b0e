use Rattle.raft_log.proofs.Sending.{ok_map}
use Rattle.raft_log.specs.declared.message.Kind.TheVariants.{RequestVote, Vote, Append, AppendReply, Forward}
use Rattle.node_steps.proofs.Hearing.{by_kind, ok_split, votes}
use Rattle.node_steps.proofs.messages.handled.Goals as goal

pub returns-in-RequestVote : goal.returns-in-RequestVote
returns-in-RequestVote g c =
    ok_split c.on_request_vote.result
    (λ step p savable places. by_kind c.args.blank c.args.standing.peers.size c.args.id c.args.from c.args.term c.args.standing c.args.log.now step c.args.kind
    (RequestVote c.in-RequestVote.last_index c.in-RequestVote.last_term) c.in-RequestVote.is
    (votes c.args.id c.args.from c.args.term c.in-RequestVote.last_index c.in-RequestVote.last_term c.args.standing c.args.log.now step p savable places))
    c.on_request_vote.ensures.step c.on_request_vote.ensures.savable c.on_request_vote.ensures.places

pub returns-in-Vote : goal.returns-in-Vote
returns-in-Vote g c =
    ok_map c.on_vote.result
    (λ step h. by_kind c.args.blank c.args.standing.peers.size c.args.id c.args.from c.args.term c.args.standing c.args.log.now step c.args.kind (Vote c.in-Vote.granted) c.in-Vote.is h)
    c.on_vote.ensures

pub returns-in-Append : goal.returns-in-Append
returns-in-Append g c =
    ok_map c.on_append.result
    (λ step h. by_kind c.args.blank c.args.standing.peers.size c.args.id c.args.from c.args.term c.args.standing c.args.log.now step c.args.kind (Append c.in-Append.batch) c.in-Append.is h)
    c.on_append.ensures

pub returns-in-AppendReply : goal.returns-in-AppendReply
returns-in-AppendReply g c =
    by_kind c.args.blank c.args.standing.peers.size c.args.id c.args.from c.args.term c.args.standing c.args.log.now c.on_append_reply.result c.args.kind
    (AppendReply c.in-AppendReply.ok c.in-AppendReply.place) c.in-AppendReply.is c.on_append_reply.ensures

pub returns-in-Forward : goal.returns-in-Forward
returns-in-Forward g c =
    ok_map c.on_forward.result
    (λ step h. by_kind c.args.blank c.args.standing.peers.size c.args.id c.args.from c.args.term c.args.standing c.args.log.now step c.args.kind (Forward c.in-Forward.body) c.in-Forward.is h)
    c.on_forward.ensures
