use Rattle.std.proofs.Common.{Ok, Err, subst}
use Rattle.node_steps.specs.Plans.{IsPrepared}
use Rattle.raft_node.specs.Inputs.{Bodies, bodies, input_plan}
use Rattle.raft_node.specs.Kept.{MayStand}
use Rattle.raft_node.specs.Parts.{Parts, applied_bodies, size_of}
use Rattle.raft_node.proofs.Applying.{runs_here}
use Rattle.raft_node.proofs.Standing.{may_stand}
use Rattle.raft_node.proofs.node.Node.plan.Goals as goal

pub returns-in-Err-clause-planned : goal.returns-in-Err-clause-planned
returns-in-Err-clause-planned g c =
    let b : Bodies g.row.M-Command.Denot g.row.M-Line.Denot = bodies g.M.Hosted.blank g.M.Hosted.opened g.M.Hosted.shut g.M.Hosted.heard g.M.Hosted.claim g.M.Hosted.source in
    subst (λ (x : Parts g.row.M-Setup.Denot g.row.M.Denot g.row.S.Denot g.row.M-Command.Denot). IsPrepared (input_plan b (g.M.Hosted.next_claim x.setup (applied_bodies x.state)) (size_of x.state) x.id c.args.input) x.state.standing x.state.log (Err c.in-Err.fault)) c.self.view_is
    (c.in-Err.ensures c.self.inside.setup (runs_here _ _ _ c.args.self.now c.self.view_is c.requires.up c.self.invariant))

pub returns-in-Ok-clause-planned : goal.returns-in-Ok-clause-planned
returns-in-Ok-clause-planned g c =
    let b : Bodies g.row.M-Command.Denot g.row.M-Line.Denot = bodies g.M.Hosted.blank g.M.Hosted.opened g.M.Hosted.shut g.M.Hosted.heard g.M.Hosted.claim g.M.Hosted.source in
    subst (λ (x : Parts g.row.M-Setup.Denot g.row.M.Denot g.row.S.Denot g.row.M-Command.Denot). IsPrepared (input_plan b (g.M.Hosted.next_claim x.setup (applied_bodies x.state)) (size_of x.state) x.id c.args.input) x.state.standing x.state.log (Ok c.in-Ok.step)) c.self.view_is
    (c.in-Ok.ensures c.self.inside.setup (runs_here _ _ _ c.args.self.now c.self.view_is c.requires.up c.self.invariant))

pub returns-in-Ok-clause-may : goal.returns-in-Ok-clause-may
returns-in-Ok-clause-may g c =
    let b : Bodies g.row.M-Command.Denot g.row.M-Line.Denot = bodies g.M.Hosted.blank g.M.Hosted.opened g.M.Hosted.shut g.M.Hosted.heard g.M.Hosted.claim g.M.Hosted.source in
    subst (λ (x : Parts g.row.M-Setup.Denot g.row.M.Denot g.row.S.Denot g.row.M-Command.Denot). MayStand x.state c.in-Ok.step) c.self.view_is
    (may_stand b (g.M.Hosted.next_claim c.self.inside.setup (applied_bodies c.self.inside.state)) c.self.inside.id c.args.input c.requires.saves c.self.inside.state c.in-Ok.step
    c.self.invariant.sound c.self.invariant.counts
    (c.in-Ok.ensures c.self.inside.setup (runs_here _ _ _ c.args.self.now c.self.view_is c.requires.up c.self.invariant)) c.has_size.ensures)
