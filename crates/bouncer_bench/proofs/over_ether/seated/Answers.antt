use Rattle.std.proofs.Common.{rules, ◌≡◌, suc}
use Rattle.bouncer_bench.proofs.First.{first_as}
use Rattle.bouncer_bench.proofs.over_ether.seated.Goals as goal

pub opening-requires-clause-node : goal.opening-requires-clause-node
opening-requires-clause-node c =
    let id : c.new.result ≡ suc c.args.pass.node = search rules in
    (c.new-2.result, first_as _ _ _ _ _ _ _ _ _ id c.size.ensures c.setup.ensures c.in_ok-node.ensures)
