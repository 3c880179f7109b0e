use Rattle.std.proofs.Common.{rules, ◌≡◌, false, None, refl, sym, ◌∙◌}
use Rattle.raft_node.specs.Hosts.{hosted}
use Rattle.raft_node.specs.Inputs.{is_apply}
use Rattle.raft_node.specs.Parts.{keeper}
use Rattle.raft_node.proofs.Acting.{acted, declined, wanting}
use Rattle.raft_node.proofs.node.Node.step.Goals as goal

pub returns-in-Ok : goal.returns-in-Ok
returns-in-Ok g c =
    let saves : is_apply c.args.input ≡ false = sym c.is_apply.ensures ∙ c.if-is_apply.false in
    let up : c.args.self.now.down ≡ None = search rules in
    acted _ _ c.args.input saves c.args.self.now up c.in-Ok.step c.in-Ok.ensures.planned c.stand.result c.stand.new.self c.stand.ensures.stood

pub returns-in-Err-Refused : goal.returns-in-Err-Refused
returns-in-Err-Refused g c =
    let saves : is_apply c.args.input ≡ false = sym c.is_apply.ensures ∙ c.if-is_apply.false in
    let up : c.args.self.now.down ≡ None = search rules in
    let planned = rw c.in-Err-Refused.field-0-is at c.in-Err-Refused.ensures.planned in
    declined _ _ c.args.input saves c.args.self.now up c.in-Err-Refused.refusal planned _ refl

pub returns-in-Err-Memory : goal.returns-in-Err-Memory
returns-in-Err-Memory g c =
    let saves : is_apply c.args.input ≡ false = sym c.is_apply.ensures ∙ c.if-is_apply.false in
    let up : c.args.self.now.down ≡ None = search rules in
    let planned = rw c.in-Err-Memory.field-0-is at c.in-Err-Memory.ensures.planned in
    let refused = wanting (hosted g.M.Hosted.blank g.M.Hosted.opened g.M.Hosted.shut g.M.Hosted.heard g.M.Hosted.claim g.M.Hosted.source (g.M.Machine.effects c.args.self.now.setup) (g.M.Hosted.next_claim c.args.self.now.setup) (g.M.Hosted.playback c.args.self.now.setup) g.M.Hosted.class)
    (keeper g.S.Stable.saved g.S.Stable.may_stand g.S.Stable.condition) c.args.input saves c.args.self.now up planned in
    search (rules, refused)
