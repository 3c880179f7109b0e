use Rattle.std.proofs.Common.{◌-◌, arith}
use Rattle.raft_log.proofs.Changes.{keeps, entry-at}
use Rattle.raft_log.proofs.log.Log.body.Goals as goal

pub get-requires : goal.get-requires
get-requires g c =
    let k = keeps c.self.inside.runs.items c.self.inside.bodies c.args.self.now c.self.view_is c.self.invariant in
    omega (arith, k.len, c.value.ensures.value, c.requires.counts_from_1, c.requires.within)

pub returns : goal.returns
returns g c =
    let k = keeps c.self.inside.runs.items c.self.inside.bodies c.args.self.now c.self.view_is c.self.invariant in
    entry-at c.args.self.now c.args.index (c.value.result - 1) c.self.inside.bodies c.get.result.now k.bodies_are (omega (arith, c.value.ensures.value, c.requires.counts_from_1)) c.get.ensures
