use Rattle.std.proofs.Common.{sym, subst, ◌∙◌}
use Rattle.std.proofs.lemmas.Result.{err_from_is_err_and}
use Rattle.raft_log.specs.Seen.{node_of}
use Rattle.replication.specs.Replication.{ask}
use Rattle.node_steps.specs.Plans.{IsStepOf, ask_plan}
use Rattle.node_steps.proofs.Planning.{comes, ask_goes}
use Rattle.node_steps.proofs.asks.on_ask.Goals as goal

pub returns : goal.returns
returns g c =
    subst (λ (b : g.row.B.Denot). IsStepOf (ask_plan c.args.id c.args.source b) c.args.standing c.args.log.now c.in_ok-ask.field-0) c.in_ok-body.ensures
    (comes c.args.standing c.args.log.now (ask_plan c.args.id c.args.source c.in_ok-body.body) (λ n. ask c.args.id n c.in_ok-body.body) c.in_ok-ask.field-0
    c.in_ok-ask.ensures.prepares c.in_ok-ask.ensures.savable
    (λ sent. ask_goes (node_of c.args.standing c.args.log.now sent) c.args.id c.args.source c.in_ok-body.body
    (sym c.may_ask.ensures ∙ c.if-not-may_ask.false) (sym c.finds_leader.ensures ∙ c.if-not-finds_leader.false) (sym c.has_no_room.ensures ∙ c.if-has_no_room.false)))

pub returns-in_err-body : goal.returns-in_err-body
returns-in_err-body g c =
    let p = err_from_is_err_and c.from_residual.result c.from_residual.ensures.1 in
    rw (p.1, p.2) (λ sent. (
      ask c.args.id (node_of c.args.standing c.args.log.now sent) c.args.body,
      ask_goes (node_of c.args.standing c.args.log.now sent) c.args.id c.args.source c.args.body
          (sym c.may_ask.ensures ∙ c.if-not-may_ask.false) (sym c.finds_leader.ensures ∙ c.if-not-finds_leader.false) (sym c.has_no_room.ensures ∙ c.if-has_no_room.false),
    ))

pub returns-in_err-ask : goal.returns-in_err-ask
returns-in_err-ask g c =
    let p = err_from_is_err_and c.from_residual-in_err-ask.result c.from_residual-in_err-ask.ensures.1 in
    rw (p.1, p.2) (λ sent. (
      ask c.args.id (node_of c.args.standing c.args.log.now sent) c.args.body,
      ask_goes (node_of c.args.standing c.args.log.now sent) c.args.id c.args.source c.args.body
          (sym c.may_ask.ensures ∙ c.if-not-may_ask.false) (sym c.finds_leader.ensures ∙ c.if-not-finds_leader.false) (sym c.has_no_room.ensures ∙ c.if-has_no_room.false),
    ))
