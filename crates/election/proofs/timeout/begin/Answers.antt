use Rattle.std.proofs.Common.{◌≡◌, ◌^◌, ℕ, true, false, nat_le, List, length, refl, ap, ◌∙◌, arith}
use Rattle.raft_log.specs.declared.message.Message.{Message}
use Rattle.raft_log.specs.Logs.{last_term}
use Rattle.raft_log.specs.Node.{is_leader}
use Rattle.election.specs.Elections.{vote_requests}
use Rattle.raft_log.specs.declared.position.Position.{Position}
use Rattle.raft_log.specs.declared.role.Role.TheVariants.{Candidate}
use Rattle.raft_log.specs.Positions.{role_of}
use Rattle.raft_log.proofs.Sending.{sent-savable, sent-within, within-following}
use Rattle.election.proofs.Timeouts.{leads, spent, begins, follows}
use Rattle.election.proofs.timeout.begin.Goals as goal

pub returns-in-Leader : goal.returns-in-Leader
returns-in-Leader g c =
    let role : is_leader (role_of c.args.standing.position) ≡ true = ap (λ (p : Position). is_leader (role_of p)) c.in-Leader.is in
    record {
      step = leads c.args.standing.peers.size c.args.id c.args.standing c.args.log.now c.still.result c.still.ensures role;
      savable = sent-savable c.args.standing c.args.log.now _ c.still.result c.still.ensures c.args.standing refl (omega arith);
      places = sent-within c.args.standing c.args.log.now _ c.still.result c.still.ensures c.args.standing (λ w. w);
    }

pub returns-then-term-ge-LAST_NUMBER : goal.returns-then-term-ge-LAST_NUMBER
returns-then-term-ge-LAST_NUMBER g c =
    let few : nat_le (2 ^ 60) c.args.standing.term ≡ true = grind arith in
    record {
      step = spent c.args.standing.peers.size c.args.id c.args.standing c.args.log.now c.still-then-term-ge-LAST_NUMBER.result c.still-then-term-ge-LAST_NUMBER.ensures few;
      savable = sent-savable c.args.standing c.args.log.now _ c.still-then-term-ge-LAST_NUMBER.result c.still-then-term-ge-LAST_NUMBER.ensures c.args.standing refl (omega arith);
      places = sent-within c.args.standing c.args.log.now _ c.still-then-term-ge-LAST_NUMBER.result c.still-then-term-ge-LAST_NUMBER.ensures c.args.standing (λ w. w);
    }

pub returns : goal.returns
returns g c =
    let role : is_leader (role_of c.args.standing.position) ≡ false = follows c.args.standing.position c.in_default.not-Leader in
    let few : nat_le (2 ^ 60) c.args.standing.term ≡ false = grind arith in
    let last : ℕ = c.last.result.1 in
    let requests : ℕ → ℕ → List (Message g.row.B.Denot) = λ k t. vote_requests c.args.standing.peers.size c.args.id c.new-next.result k t in
    let asks : c.in_ok-messages.messages.items ≡ requests (length c.args.log.now) (last_term c.args.log.now) =
    c.in_ok-messages.ensures ∙ (ap (λ (k : ℕ). requests k last) c.last.ensures.place ∙ ap (λ (t : ℕ). requests (length c.args.log.now) t) c.last.ensures.term)
    in
    record {
      step = begins c.args.standing.peers.size c.args.id c.args.standing c.args.log.now c.sending.result c.new-next.result c.only.result c.in_ok-messages.messages.items c.sending.ensures role few (omega arith) c.only.ensures asks;
      savable = sent-savable _ c.args.log.now _ c.sending.result c.sending.ensures c.args.standing refl (omega arith);
      places = sent-within _ c.args.log.now _ c.sending.result c.sending.ensures c.args.standing (λ w. within-following Candidate refl w.commit_within);
    }
