use Rattle.std.proofs.Common.{◌≡◌, ◌^◌, suc, false, nat_le, Option, Some, sym, ap, arith, ◌∙◌}
use Rattle.std.specs.Option.{is_some}
use Rattle.raft_log.specs.declared.node_state.Live.{Live}
use Rattle.raft_log.specs.Positions.{live_of}
use Rattle.raft_log.specs.Seen.{node_of}
use Rattle.node_steps.specs.Plans.{open_plan, own_plan}
use Rattle.node_steps.proofs.Planning.{follows, stays, opens, opens_not, prepared-as, session}
use Rattle.node_steps.proofs.sessions.on_opened.Goals as goal

pub returns-then-not-leads : goal.returns-then-not-leads
returns-then-not-leads g c =
    stays c.args.standing c.args.log.now (open_plan g.M.Hosted.opened) c.still.result c.still.ensures
    (λ sent. follows (node_of c.args.standing c.args.log.now sent) _ (sym c.leads.ensures ∙ c.if-not-leads.true))

pub returns-then-is_some : goal.returns-then-is_some
returns-then-is_some g c =
    stays c.args.standing c.args.log.now (open_plan g.M.Hosted.opened) c.still-then-is_some.result c.still-then-is_some.ensures
    (λ sent. opens_not (node_of c.args.standing c.args.log.now sent) g.M.Hosted.opened (ap (λ (l : Option Live). is_some l) (sym c.live.ensures) ∙ sym c.is_some.ensures ∙ c.if-is_some.true))

pub returns : goal.returns
returns g c =
    let none : is_some (live_of c.args.standing.position) ≡ false = ap (λ (l : Option Live). is_some l) (sym c.live.ensures) ∙ sym c.is_some.ensures ∙ c.if-is_some.false in
    let few : nat_le (2 ^ 60) c.args.standing.attempts ≡ false = grind arith in
    let attempts : c.new-attempts.result ≡ suc c.args.standing.attempts = omega arith in
    let attempt : c.value-2.result ≡ suc c.args.standing.attempts = omega arith in
    prepared-as c.args.standing c.args.log.now (own_plan (Some (session c.new-id.result c.new-next.result)) c.new-attempts.result c.opened-body.result) (open_plan g.M.Hosted.opened)
    (λ sent. opens (node_of c.args.standing c.args.log.now sent) g.M.Hosted.opened c.new-id.result c.value.result c.value-2.result c.new-next.result c.new-attempts.result c.opened-body.result
    (sym c.leads.ensures ∙ c.if-not-leads.false) none few c.opened-body.ensures c.new-id.ensures c.value.ensures.value attempt c.new-next.ensures attempts)
    c.append_own.result c.append_own.ensures
