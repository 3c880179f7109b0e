use Rattle.std.proofs.Common.{sym, ◌∙◌}
use Rattle.std.proofs.lemmas.Result.{err_from_is_err_and}
use Rattle.raft_log.specs.Seen.{node_of}
use Rattle.election.specs.Elections.{timed_out}
use Rattle.node_steps.specs.Plans.{election_plan}
use Rattle.node_steps.proofs.Planning.{comes, election_begins}
use Rattle.node_steps.proofs.timeout.on_timeout.Goals as goal

pub returns : goal.returns
returns g c =
    comes c.args.standing c.args.log.now (election_plan c.args.standing.peers.size c.args.id) (timed_out c.args.standing.peers.size c.args.id) c.in_ok-begin.field-0
    c.in_ok-begin.ensures.step c.in_ok-begin.ensures.savable
    (λ sent. election_begins (node_of c.args.standing c.args.log.now sent) c.args.standing.peers.size c.args.id (sym c.is_spent.ensures ∙ c.if-is_spent.false))

pub returns-in_err-begin : goal.returns-in_err-begin
returns-in_err-begin g c =
    let p = err_from_is_err_and c.from_residual.result c.from_residual.ensures.1 in
    rw (p.1, p.2) (λ sent. (
      timed_out c.args.standing.peers.size c.args.id (node_of c.args.standing c.args.log.now sent),
      election_begins (node_of c.args.standing c.args.log.now sent) c.args.standing.peers.size c.args.id (sym c.is_spent.ensures ∙ c.if-is_spent.false),
    ))
