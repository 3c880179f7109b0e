use Rattle.std.proofs.Common.{◌≡◌, if◌then◌else◌, Some, sym, ap, subst, ◌∙◌, arith}
use Rattle.std.proofs.lemmas.Bool.{cond-true, cond-false}
use Rattle.raft_log.specs.declared.node_state.Standing.{Standing}
use Rattle.raft_log.specs.Steps.{IsWithinLog}
use Rattle.raft_log.proofs.Sending.{ok_map, sent-savable, sent-within}
use Rattle.election.proofs.Votes.{votes}
use Rattle.election.proofs.vote.on_request_vote.Goals.{then-granted, else-granted}
use Rattle.election.proofs.vote.on_request_vote.Goals as goal

pub returns : goal.returns
returns g c =
    let old : Standing = c.args.standing in
    let new : Standing = c.if-granted.voted in
    let granted = c.grants-granted.result in
    let given : Standing = record old { vote = Some c.args.from } in
    let is : new ≡ (if granted then given else old) =
    elim c.if-granted.branch [
      | then-granted w ↦ w.voted-is ∙ sym (cond-true granted given old w.if-granted.true)
      | else-granted w ↦ w.voted-is ∙ sym (cond-false granted given old w.if-granted.false)
    ]
    in
    let but_vote : new ≡ record old { vote = new.vote } =
    elim c.if-granted.branch [
      | then-granted w ↦ w.voted-is ∙ ap (λ v. record old { vote = v }) (sym (ap (λ (n : Standing). n.vote) w.voted-is))
      | else-granted w ↦ w.voted-is ∙ ap (λ v. record old { vote = v }) (sym (ap (λ (n : Standing). n.vote) w.voted-is))
    ]
    in
    let term : new.term ≡ old.term = ap (λ (n : Standing). n.term) but_vote in
    record {
      step = ok_map c.answering.result (λ step h. votes c.args.id c.args.from c.args.term c.args.last_index c.args.last_term old new c.value.result c.value-2.result granted c.args.log.now step h c.value.ensures.value c.value-2.ensures.value c.grants-granted.ensures is) c.answering.ensures;
      savable = ok_map c.answering.result (λ step h. sent-savable new c.args.log.now _ step h old (ap (λ (n : Standing). n.boot) but_vote) (omega arith)) c.answering.ensures;
      places = ok_map c.answering.result (λ step h. sent-within new c.args.log.now _ step h old (λ w. subst (λ (n : Standing). IsWithinLog n c.args.log.now) (sym but_vote) w)) c.answering.ensures;
    }
