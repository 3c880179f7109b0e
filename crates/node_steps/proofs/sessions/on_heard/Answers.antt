use Rattle.std.proofs.Common.{◌≡◌, ℕ, suc, true, Some, sym, arith, ◌∙◌}
use Rattle.wire_bytes.specs.declared.session_id.SessionId.{SessionId}
use Rattle.raft_log.specs.Node.{is_leader}
use Rattle.raft_log.specs.Positions.{role_of}
use Rattle.raft_log.specs.Seen.{node_of}
use Rattle.node_steps.specs.Plans.{hear_plan, own_plan}
use Rattle.node_steps.proofs.Planning.{stays, hears_not, hears_line, holds, prepared-as}
use Rattle.node_steps.proofs.sessions.on_heard.Goals as goal

pub returns-in-Some : goal.returns-in-Some
returns-in-Some g c =
    let heard : SessionId → ℕ → g.row.M-Command.Denot = λ id number. g.M.Hosted.heard id number c.args.at c.args.line in
    let is = sym c.live.ensures ∙ c.in-Some.is in
    let leading : is_leader (role_of c.args.standing.position) ≡ true = holds c.args.standing.position c.in-Some.live is in
    let next : c.new.result ≡ suc c.in-Some.live.next = omega arith in
    prepared-as c.args.standing c.args.log.now (own_plan (Some (record c.in-Some.live { next = c.new.result })) c.args.standing.attempts c.heard-body.result) (hear_plan heard)
    (λ sent. hears_line (node_of c.args.standing c.args.log.now sent) heard c.in-Some.live c.new.result c.heard-body.result leading is c.heard-body.ensures next)
    c.append_own.result c.append_own.ensures

pub returns-in-None : goal.returns-in-None
returns-in-None g c =
    let heard : SessionId → ℕ → g.row.M-Command.Denot = λ id number. g.M.Hosted.heard id number c.args.at c.args.line in
    stays c.args.standing c.args.log.now (hear_plan heard) c.still.result c.still.ensures
    (λ sent. hears_not (node_of c.args.standing c.args.log.now sent) heard (sym c.live.ensures ∙ c.in-None.is))
