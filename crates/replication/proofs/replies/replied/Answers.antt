use Rattle.std.proofs.Common.{◌≡◌, ◌==◌, ◌&&◌, Bool, true, nat_le, if◌then◌else◌, length, sym, ap, ◌∙◌, arith}
use Rattle.std.proofs.lemmas.Bool.{cond-true}
use Rattle.raft_log.specs.Node.{Node, is_leader}
use Rattle.raft_log.specs.Positions.{role_of}
use Rattle.raft_log.specs.Seen.{node_of}
use Rattle.replication.specs.Replication.{advanced, with_match, stepped_back}
use Rattle.replication.proofs.Asking.{leads}
use Rattle.replication.proofs.replies.replied.Goals as goal

pub returns-then-ok-clause-step : goal.returns-then-ok-clause-step
returns-then-ok-clause-step g c =
    let same : (c.args.standing.term == c.args.term) ≡ true = grind arith in
    let within : nat_le c.args.place (length c.args.log.now) ≡ true = grind arith in
    let role : is_leader (role_of c.args.standing.position) ≡ true = leads c.args.standing.position c.in-Leader.field-0 c.in-Leader.is in
    let all : (is_leader (role_of c.args.standing.position) && ((c.args.standing.term == c.args.term) && nat_le c.args.place (length c.args.log.now))) ≡ true =
    ap (λ (b : Bool). b && ((c.args.standing.term == c.args.term) && nat_le c.args.place (length c.args.log.now))) role
    ∙ (ap (λ (b : Bool). b && nat_le c.args.place (length c.args.log.now)) same ∙ within)
    in
    λ sent.
    let now : Node g.row.B.Denot = node_of c.args.standing c.args.log.now sent in
    let yes : Node g.row.B.Denot = advanced c.args.standing.peers.size c.args.id (with_match now c.args.from c.args.place) in
    let no : Node g.row.B.Denot = stepped_back now c.args.from c.args.place in
    c.taken.ensures.step sent ∙ sym (cond-true (is_leader (role_of c.args.standing.position) && ((c.args.standing.term == c.args.term) && nat_le c.args.place (length c.args.log.now))) (if c.args.ok then yes else no) now all ∙ cond-true c.args.ok yes no c.if-ok.true)
