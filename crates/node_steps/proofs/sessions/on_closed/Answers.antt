use Rattle.std.proofs.Common.{◌≡◌, true, None, Some, sym, ◌∙◌}
use Rattle.raft_log.specs.Node.{is_leader}
use Rattle.raft_log.specs.Positions.{role_of}
use Rattle.raft_log.specs.Seen.{node_of}
use Rattle.node_steps.specs.Plans.{close_plan, own_plan}
use Rattle.node_steps.proofs.Planning.{stays, closes_not, closes_live, holds, prepared-as}
use Rattle.node_steps.proofs.sessions.on_closed.Goals as goal

pub returns-in-None : goal.returns-in-None
returns-in-None g c =
    stays c.args.standing c.args.log.now (close_plan g.M.Hosted.shut) c.still.result c.still.ensures
    (λ sent. closes_not (node_of c.args.standing c.args.log.now sent) g.M.Hosted.shut (sym c.live.ensures ∙ c.in-None.is))

pub returns-in-Some : goal.returns-in-Some
returns-in-Some g c =
    let is = sym c.live.ensures ∙ c.in-Some.is in
    let leading : is_leader (role_of c.args.standing.position) ≡ true = holds c.args.standing.position c.in-Some.live is in
    prepared-as c.args.standing c.args.log.now (own_plan None c.args.standing.attempts c.shut-body.result) (close_plan g.M.Hosted.shut)
    (λ sent. closes_live (node_of c.args.standing c.args.log.now sent) g.M.Hosted.shut c.in-Some.live c.shut-body.result leading is c.shut-body.ensures)
    c.append_own.result c.append_own.ensures
