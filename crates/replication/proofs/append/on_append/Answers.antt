use Rattle.std.proofs.Common.{◌≡◌, ℕ, true, false, nat_lt, [], ◌∷◌, subst, ap, arith}
use Rattle.raft_log.specs.Node.{is_leader}
use Rattle.raft_log.specs.Positions.{role_of}
use Rattle.raft_log.specs.declared.position.Position.{Position}
use Rattle.raft_log.specs.Steps.{IsSending}
use Rattle.raft_log.proofs.Sending.{ok_map}
use Rattle.replication.specs.Replication.{reply}
use Rattle.replication.proofs.Appends.{follows, older, leading, following}
use Rattle.replication.proofs.append.on_append.Goals as goal

pub returns-then-lt : goal.returns-then-lt
returns-then-lt g c =
    let less : nat_lt c.args.term c.args.standing.term ≡ true = grind arith in
    ok_map c.answer.result
    (λ step h.
    older c.args.id c.args.from c.args.term c.args.batch.prev_index c.args.batch.prev_term c.args.batch.commit c.args.batch.entries c.args.standing c.args.log.now step
    (subst (λ (place : ℕ). IsSending c.args.standing c.args.log.now (reply c.args.standing.term c.args.id c.args.from false place ∷ []) step) c.new.ensures h) less)
    c.answer.ensures

pub returns-in-Leader : goal.returns-in-Leader
returns-in-Leader g c =
    let not_less : nat_lt c.args.term c.args.standing.term ≡ false = grind arith in
    let role : is_leader (role_of c.args.standing.position) ≡ true = ap (λ (p : Position). is_leader (role_of p)) c.in-Leader.is in
    leading c.args.id c.args.from c.args.term c.args.batch.prev_index c.args.batch.prev_term c.args.batch.commit c.args.batch.entries c.args.standing c.args.log.now c.still.result c.still.ensures not_less role

pub returns : goal.returns
returns g c =
    let not_less : nat_lt c.args.term c.args.standing.term ≡ false = grind arith in
    let role : is_leader (role_of c.args.standing.position) ≡ false = follows c.args.standing.position c.in_default.not-Leader in
    ok_map c.accept.result (λ step h. following c.args.id c.args.from c.args.term c.args.batch.prev_index c.args.batch.prev_term c.args.batch.commit c.args.batch.entries c.args.standing c.args.log.now step not_less role h) c.accept.ensures
