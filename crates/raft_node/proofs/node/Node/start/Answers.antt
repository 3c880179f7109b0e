use Rattle.std.proofs.Common.{refl}
use Rattle.std.proofs.lemmas.Result.{err_from_is_err_and}
use Rattle.raft_node.proofs.Starts.{new_whole}
use Rattle.raft_node.proofs.node.Node.start.Goals as goal

pub invariant_of-result : goal.invariant_of-result
invariant_of-result g c =
    new_whole _ _ _ c.args.size _ c.in_ok-state.ensures.answers.0 c.value.ensures.limits.0 c.requires c.in_ok-machine.ensures c.in_ok-state.ensures.answers.1

pub returns-in_err-setup : goal.returns-in_err-setup
returns-in_err-setup g c =
    let p = err_from_is_err_and c.from_residual.result c.from_residual.ensures.1 in
    rw (p.1, p.2) (c.args.store, refl, λ honest. refl)

pub returns-in_err-machine : goal.returns-in_err-machine
returns-in_err-machine g c =
    let p = err_from_is_err_and c.from_residual-in_err-machine.result c.from_residual-in_err-machine.ensures.1 in
    rw (p.1, p.2) (c.args.store, refl, λ honest. refl)
