use Rattle.std.proofs.Common.{leb, ap, ◌∙◌}
use Rattle.raft_log.proofs.Changes.{keeps}
use Rattle.raft_log.proofs.log.Log.is_full.Goals as goal

pub returns : goal.returns
returns g c =
    let k = keeps c.self.inside.runs.items c.self.inside.bodies c.args.self.now c.self.view_is c.self.invariant in
    ap (leb 1000000) (c.len.ensures ∙ k.len)
