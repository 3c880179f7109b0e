use Rattle.std.proofs.Common.{ap, subst, IfOk}
use Rattle.raft_log.specs.declared.position.Position.{Position}
use Rattle.raft_log.specs.Node.{is_candidate}
use Rattle.raft_log.specs.Positions.{role_of}
use Rattle.raft_log.proofs.Sending.{ok_map}
use Rattle.raft_log.specs.Steps.{IsStep}
use Rattle.replication.specs.Replication.{on_vote}
use Rattle.replication.proofs.Asking.{candidate_not, votes, votes_not}
use Rattle.replication.proofs.vote.on_vote.Goals as goal

pub returns-in-Candidate : goal.returns-in-Candidate
returns-in-Candidate g c =
    subst (λ (b : g.row.B.Denot). IfOk c.on_forward.result (IsStep (λ s. on_vote b c.args.standing.peers.size s c.args.from c.args.term c.args.granted) c.args.standing c.args.log.now)) c.in_ok-blank.ensures
    (ok_map c.on_forward.result (λ step h. votes c.args.standing c.args.log.now step c.in_ok-blank.blank c.args.standing.peers.size c.args.from c.args.term c.args.granted c.on_vote-known.result
    (ap (λ (p : Position). is_candidate (role_of p)) c.in-Candidate.is) c.on_vote-known.ensures.step c.on_vote-known.ensures.saved.0 c.on_vote-known.ensures.saved.1 c.on_vote-known.ensures.commit c.on_vote-known.ensures.places h)
    c.on_forward.ensures)

pub returns : goal.returns
returns g c =
    votes_not c.args.standing c.args.log.now c.still.result c.args.blank c.args.standing.peers.size c.args.from c.args.term c.args.granted c.still.ensures (candidate_not c.args.standing.position c.in_default.not-Candidate)
