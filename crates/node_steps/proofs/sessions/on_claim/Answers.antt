use Rattle.std.proofs.Common.{◌≡◌, true, None, Some, sym, ◌∙◌}
use Rattle.raft_log.specs.Node.{is_leader}
use Rattle.raft_log.specs.Positions.{role_of}
use Rattle.raft_log.specs.Seen.{node_of}
use Rattle.node_steps.specs.Plans.{claim_plan, own_plan}
use Rattle.node_steps.proofs.Planning.{stays, claims_not, claims_none, claims_line, holds, prepared-as}
use Rattle.node_steps.proofs.sessions.on_claim.Goals as goal

pub returns-in-None-number : goal.returns-in-None-number
returns-in-None-number g c =
    stays c.args.standing c.args.log.now (claim_plan g.M.Hosted.claim c.args.number) c.still.result c.still.ensures
    (λ sent. claims_none (node_of c.args.standing c.args.log.now sent) g.M.Hosted.claim c.args.number c.in-Some.live c.in-None-number.is (sym c.live.ensures ∙ c.in-Some.is))

pub returns-in-None : goal.returns-in-None
returns-in-None g c =
    stays c.args.standing c.args.log.now (claim_plan g.M.Hosted.claim c.args.number) c.still-in-None.result c.still-in-None.ensures
    (λ sent. claims_not (node_of c.args.standing c.args.log.now sent) g.M.Hosted.claim c.args.number (sym c.live.ensures ∙ c.in-None.is))

pub returns-in-Some-number : goal.returns-in-Some-number
returns-in-Some-number g c =
    let is = sym c.live.ensures ∙ c.in-Some.is in
    let leading : is_leader (role_of c.args.standing.position) ≡ true = holds c.args.standing.position c.in-Some.live is in
    prepared-as c.args.standing c.args.log.now (own_plan (Some c.in-Some.live) c.args.standing.attempts c.claim-body.result) (claim_plan g.M.Hosted.claim c.args.number)
    (λ sent. claims_line (node_of c.args.standing c.args.log.now sent) g.M.Hosted.claim c.args.number c.in-Some-number.number c.in-Some.live c.claim-body.result leading c.in-Some-number.is is c.claim-body.ensures)
    c.append_own.result c.append_own.ensures
