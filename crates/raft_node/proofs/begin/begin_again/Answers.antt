use Rattle.raft_node.specs.Parts.{Keeper, keeper}
use Rattle.raft_node.proofs.Beginning.{begins_again}
use Rattle.raft_node.proofs.begin.begin_again.Goals as goal

pub returns-in-Ok : goal.returns-in-Ok
returns-in-Ok g c =
    let k : Keeper g.row.S.Denot g.row.B.Denot = keeper g.S.Stable.saved g.S.Stable.may_stand g.S.Stable.condition in
    begins_again k c.args.size c.args.store.now c.again.new.self c.begin.new.store c.in-Ok.ensures.stands c.in-Ok.ensures.condition.honest c.in-Ok.ensures.condition.counts
    c.in-Ok.ensures.condition.mended c.in-Ok.ensures.condition.passed c.begin.result c.begin.ensures
