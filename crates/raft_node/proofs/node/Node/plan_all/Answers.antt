use Rattle.std.proofs.Common.{subst}
use Rattle.std.proofs.lemmas.Result.{IfOk-weaker}
use Rattle.raft_node.specs.Hosts.{hosted}
use Rattle.raft_node.specs.Kept.{MayStand}
use Rattle.raft_node.specs.Parts.{Parts, applied_bodies}
use Rattle.raft_node.specs.SteppingTogether.{ComeTo}
use Rattle.raft_node.proofs.Applying.{runs_here}
use Rattle.raft_node.proofs.SteppingAll.{come_to}
use Rattle.raft_node.proofs.node.Node.plan_all.Goals as goal

pub returns-clause-planned : goal.returns-clause-planned
returns-clause-planned g c =
    IfOk-weaker c.plan_together.result _ _
    (λ r h. subst (λ (x : Parts g.row.M-Setup.Denot g.row.M.Denot g.row.S.Denot g.row.M-Command.Denot). ComeTo (hosted g.M.Hosted.blank g.M.Hosted.opened g.M.Hosted.shut g.M.Hosted.heard g.M.Hosted.claim g.M.Hosted.source (g.M.Machine.effects x.setup) (g.M.Hosted.next_claim x.setup) (g.M.Hosted.playback x.setup) g.M.Hosted.class) c.args.inputs.items x r.0 r.1.items) c.self.view_is
    (come_to (hosted g.M.Hosted.blank g.M.Hosted.opened g.M.Hosted.shut g.M.Hosted.heard g.M.Hosted.claim g.M.Hosted.source (g.M.Machine.effects c.self.inside.setup) (g.M.Hosted.next_claim c.self.inside.setup) (g.M.Hosted.playback c.self.inside.setup) g.M.Hosted.class) c.args.inputs.items _ c.requires.appends c.self.invariant.sound c.next_claim-next.result
    (c.next_claim-next.ensures c.self.inside.setup (applied_bodies c.self.inside.state) (runs_here _ _ _ c.args.self.now c.self.view_is c.requires.up c.self.invariant)) r.0 r.1.items h))
    c.plan_together.ensures.planned

pub returns-clause-may : goal.returns-clause-may
returns-clause-may g c =
    IfOk-weaker c.plan_together.result _ _
    (λ r h. subst (λ (x : Parts g.row.M-Setup.Denot g.row.M.Denot g.row.S.Denot g.row.M-Command.Denot). MayStand x.state r.0) c.self.view_is h)
    c.plan_together.ensures.may
