use Rattle.std.proofs.Common.{sym, subst, ◌∙◌}
use Rattle.std.proofs.lemmas.Result.{err_from_is_err_and}
use Rattle.raft_log.specs.Seen.{node_of}
use Rattle.replication.specs.Replication.{on_forward}
use Rattle.node_steps.specs.Plans.{IsStepOf, own_plan}
use Rattle.node_steps.proofs.Planning.{own_step, own_goes_on}
use Rattle.node_steps.proofs.own.append_own.Goals as goal

pub returns : goal.returns
returns g c =
    subst (λ (b : g.row.B.Denot). IsStepOf (own_plan c.args.live c.args.attempts b) c.args.standing c.args.log.now c.in_ok-on_forward.field-0) c.in_ok-body.ensures
    (own_step c.args.standing c.args.log.now c.args.live c.args.attempts c.in_ok-body.body c.in_ok-on_forward.field-0 c.requires.leads
    (sym c.is_full.ensures ∙ c.if-is_full.false) c.in_ok-on_forward.ensures)

pub returns-in_err-body : goal.returns-in_err-body
returns-in_err-body g c =
    let p = err_from_is_err_and c.from_residual.result c.from_residual.ensures.1 in
    rw (p.1, p.2) (λ sent. (
      on_forward (record (node_of c.args.standing c.args.log.now sent) { live = c.args.live; attempts = c.args.attempts }) c.args.body,
      own_goes_on (node_of c.args.standing c.args.log.now sent) c.args.live c.args.attempts c.args.body (sym c.is_full.ensures ∙ c.if-is_full.false),
    ))

pub returns-in_err-on_forward : goal.returns-in_err-on_forward
returns-in_err-on_forward g c =
    let p = err_from_is_err_and c.from_residual-in_err-on_forward.result c.from_residual-in_err-on_forward.ensures.1 in
    rw (p.1, p.2) (λ sent. (
      on_forward (record (node_of c.args.standing c.args.log.now sent) { live = c.args.live; attempts = c.args.attempts }) c.args.body,
      own_goes_on (node_of c.args.standing c.args.log.now sent) c.args.live c.args.attempts c.args.body (sym c.is_full.ensures ∙ c.if-is_full.false),
    ))
