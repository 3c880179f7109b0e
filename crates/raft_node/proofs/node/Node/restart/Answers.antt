use Rattle.std.proofs.Common.{◌≤◌, arith}
use Rattle.raft_node.proofs.Starts.{new_whole, restarts}
use Rattle.raft_node.proofs.node.Node.restart.Goals as goal

pub invariant_of-self-in-Ok-begin_again : goal.invariant_of-self-in-Ok-begin_again
invariant_of-self-in-Ok-begin_again g c =
    let high : c.self.inside.id ≤ c.size-size.result = omega (arith, c.size-size.ensures, c.self.invariant.in_group.1) in
    new_whole _ _ _ c.size-size.result _ c.in-Ok-begin_again.ensures.answers.0 c.self.invariant.in_group.0 high c.in-Ok.ensures c.in-Ok-begin_again.ensures.answers.1

pub returns-in-Ok-begin_again : goal.returns-in-Ok-begin_again
returns-in-Ok-begin_again g c =
    restarts _ _ c.in-Ok.machine c.begin_again.new.store c.in-Ok-begin_again.state c.args.self.now c.size-size.result c.self.view_is c.size-size.ensures c.in-Ok-begin_again.ensures
