use Rattle.std.proofs.Common.{arith}
use Rattle.raft_log.proofs.Changes.{keeps}
use Rattle.raft_log.proofs.log.Log.len.Goals as goal

pub returns-clause-value : goal.returns-clause-value
returns-clause-value g c =
    let k = keeps c.self.inside.runs.items c.self.inside.bodies c.args.self.now c.self.view_is c.self.invariant in
    omega (arith, c.new.ensures, c.len.ensures, k.len)

pub returns-clause-limit : goal.returns-clause-limit
returns-clause-limit g c =
    let k = keeps c.self.inside.runs.items c.self.inside.bodies c.args.self.now c.self.view_is c.self.invariant in
    k.limit
